use Rattle.std.proofs.Common.{take}
use Rattle.mr_concise.proofs.ChangeLemmas.{HaveFew}
use Rattle.mr_concise.proofs.union.has_too_many.Given as goal

abbrev pub invariant-loop-x : goal.invariant-loop-x
invariant-loop-x l = HaveFew l.a (take l.x-index l.b)
