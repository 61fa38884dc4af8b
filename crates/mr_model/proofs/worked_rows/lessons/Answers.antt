use Rattle.std.proofs.Common.{refl}
use Rattle.mr_model.specs.StreamRows.{taught_by_item, whole, gapped, cut, partial, mixed}
use Rattle.mr_model.proofs.RowsHold.{is_run_by_test}
use Rattle.mr_model.proofs.worked_rows.lessons.Goals as goal

pub returns : goal.returns
returns c = record {
  taught_by_item = record { runs = is_run_by_test taught_by_item refl; knowledge = refl };
  own_is_superseded = record { own = refl; first = refl; not_others = refl };
  teach_nothing = record {
    whole_runs = is_run_by_test whole refl;
    whole_teaches = refl;
    gapped_runs = is_run_by_test gapped refl;
    gapped_teaches_nothing = refl;
    cut_runs = is_run_by_test cut refl;
    cut_teaches_items_alone = refl;
    partial_runs = is_run_by_test partial refl;
    partial_teaches_items_alone = refl;
    mixed_runs = is_run_by_test mixed refl;
    mixed_teaches_items_alone = refl;
  };
}
