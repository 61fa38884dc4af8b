use Rattle.std.proofs.Common.{refl}
use Rattle.mr_model.specs.PortRows.{retired, small_port, closed_twice}
use Rattle.mr_model.proofs.RowsHold.{is_run_by_test}
use Rattle.mr_model.proofs.worked_rows.subscribers.Goals as goal

pub returns : goal.returns
returns c = record {
  retired_and_closed = record { runs = is_run_by_test retired refl; heads = refl; offered = refl; taken = refl };
  small_port = record { runs = is_run_by_test small_port refl; feed = refl; indexer_took = refl; notifier_took = refl };
  closed_twice = record { runs = is_run_by_test closed_twice refl; marks = refl };
}
