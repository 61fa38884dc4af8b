use Rattle.std.proofs.Common.{take}
use Rattle.mr_settle.specs.inner.Carried.{AreAtStart}
use Rattle.mr_settle.proofs.way.no_progress.Given as goal

abbrev pub invariant-loop-end : goal.invariant-loop-end
invariant-loop-end g l = AreAtStart (take l.end-index l.ends) l.progress.items
