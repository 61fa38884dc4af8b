use Rattle.std.proofs.Common.{◌-◌, ◌≤◌, ◌+◌, length}
use Rattle.mr_concise.specs.declared.column.TheConstants.{COUNTERS_END, MAX_HOLES}
use Rattle.mr_concise.proofs.MergeLemmas.{Merged, has_one}
use Rattle.mr_concise.proofs.column_ref.ColumnRef.merged_with_lower.Given as goal

-- the holes of both so far, which are few
abbrev pub invariant-loop-hole : goal.invariant-loop-hole
invariant-loop-hole l = Merged (has_one l.self l.low) l.holes.items l.from × (l.from ≤ l.self.upto + 1) × (length l.holes.items ≤ MAX_HOLES)

abbrev pub decreases-loop-hole : goal.decreases-loop-hole
decreases-loop-hole l = COUNTERS_END - l.from
