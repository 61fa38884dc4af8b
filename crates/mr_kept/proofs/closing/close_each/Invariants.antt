use Rattle.std.proofs.Common.{drop}
use Rattle.mr_kept.proofs.CloseLemmas.{ClosedSoFar}
use Rattle.mr_kept.proofs.closing.close_each.Given as goal

abbrev pub invariant-loop-number : goal.invariant-loop-number
invariant-loop-number g l = ClosedSoFar l.kind l.fn.replica l.replica (drop l.number-index l.number-items)
