use Rattle.std.proofs.Common.{refl}
use Rattle.mr_model.specs.SyncRows.{first_sync, resumed, moved_out, covered, old_stream, merge, older_late, passed_on}
use Rattle.mr_model.proofs.RowsHold.{is_run_by_test, conflicting}
use Rattle.mr_model.proofs.worked_rows.syncs.Goals as goal

pub returns : goal.returns
returns c = record {
  first_sync = record { runs = is_run_by_test first_sync refl; heads = refl; knowledge = refl; feed = refl };
  cut_and_resumed = record { runs = is_run_by_test resumed refl; knowledge_between = refl; knowledge = refl; heads = refl };
  moved_out = record { runs = is_run_by_test moved_out refl; feed = refl; heads = refl; push_outs = refl; knowledge = refl };
  covered = record { runs = is_run_by_test covered refl; heads = refl; feed = refl; knowledge = refl };
  old_stream = record { runs = is_run_by_test old_stream refl; heads_before = refl; heads = refl; feed = refl };
  merge = record { runs = is_run_by_test merge refl; heads_between = refl; conflicting = conflicting; heads = refl; feed = refl };
  older_late = record { runs = is_run_by_test older_late refl; heads = refl; feed = refl; knowledge = refl };
  passed_on = record { runs = is_run_by_test passed_on refl; push_outs = refl; heads = refl; knowledge_between = refl; feed = refl };
}
