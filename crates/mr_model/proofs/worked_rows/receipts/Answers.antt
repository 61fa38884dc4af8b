use Rattle.std.proofs.Common.{refl}
use Rattle.mr_model.specs.ReceiptRows.{released, released_one, released_beside, superseded_released, retiring}
use Rattle.mr_model.proofs.RowsHold.{is_run_by_test}
use Rattle.mr_model.proofs.worked_rows.receipts.Goals as goal

pub returns : goal.returns
returns c = record {
  released = record { runs = is_run_by_test released refl; push_outs = refl; heads = refl };
  released_one = record { runs = is_run_by_test released_one refl; push_outs = refl };
  store_stays = record { runs = is_run_by_test released_beside refl; push_outs = refl; heads = refl };
  superseded_released = record { runs = is_run_by_test superseded_released refl; push_outs_before = refl; push_outs = refl };
  clean_retirement = record { runs = is_run_by_test retiring refl; push_outs = refl; heads = refl };
}
