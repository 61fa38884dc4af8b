use Rattle.std.proofs.Common.{take, All}
use Rattle.mr_settle.proofs.Names.{AllZip, HasGoodLimit, IsSpecOf}
use Rattle.mr_settle.proofs.start.specs_of.Given as goal

abbrev pub invariant-loop-end : goal.invariant-loop-end
invariant-loop-end g l = AllZip IsSpecOf (take l.end-index l.ends) l.specs.items × All HasGoodLimit l.specs.items
