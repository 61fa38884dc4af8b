use Rattle.std.proofs.Common.{◌≤◌, ◌-◌, length}
use Rattle.mr_session.specs.inner.Held.{IsRow}
use Rattle.mr_session.proofs.held_runs.row_length.Given as goal

-- those below are in the row
abbrev pub invariant-loop-low : goal.invariant-loop-low
invariant-loop-low l = record {
  some : 1 ≤ l.low;
  ordered : l.low ≤ l.high;
  within : l.high ≤ length l.revisions;
  step : 1 ≤ l.step;
  row : IsRow l.first l.low l.revisions;
}

abbrev pub decreases-loop-low : goal.decreases-loop-low
decreases-loop-low l = l.high - l.low
