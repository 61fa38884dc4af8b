use Rattle.std.proofs.Common.{refl}
use Rattle.mr_model.specs.StreamRows.{created_ahead, edited, brought_later, learned_later, held_twice}
use Rattle.mr_model.proofs.RowsHold.{is_run_by_test}
use Rattle.mr_model.proofs.worked_rows.changing_sources.Goals as goal

pub returns : goal.returns
returns c = record {
  created_ahead = record { runs = is_run_by_test created_ahead refl; heads = refl; knowledge = refl };
  edited = record { runs = is_run_by_test edited refl; heads = refl; feed = refl; knowledge = refl };
  created_behind = record { runs = is_run_by_test brought_later refl; heads_between = refl; knowledge_between = refl; heads = refl; knowledge = refl };
  learned_later = record { runs = is_run_by_test learned_later refl; knowledge = refl };
  held_twice = record { runs = is_run_by_test held_twice refl; heads = refl };
}
