use Rattle.std.proofs.Common.{All, take}
use Rattle.mr_settle.specs.inner.Arrived.{IsOneInWorld}
use Rattle.mr_settle.proofs.join.compare.Given as goal

abbrev pub invariant-loop-end : goal.invariant-loop-end
invariant-loop-end g l = All (IsOneInWorld g.K.Knowledge.form l.world) (take l.end-index l.ends)
