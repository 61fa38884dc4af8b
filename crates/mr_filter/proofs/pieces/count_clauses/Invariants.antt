use Rattle.std.proofs.Common.{◌≡◌, ◌+◌, ◌≤◌, length}
use Rattle.mr_filter.proofs.Names.{IsUtf8, clauses_of}
use Rattle.mr_filter.proofs.pieces.count_clauses.Given as goal

abbrev pub invariant-loop-next : goal.invariant-loop-next
invariant-loop-next l = (l.count + length (clauses_of l.rest) ≡ length (clauses_of l.fn.text) + 1) × (l.count + length l.rest ≤ length l.fn.text + 1) × IsUtf8 l.rest

abbrev pub decreases-loop-next : goal.decreases-loop-next
decreases-loop-next l = length l.rest
