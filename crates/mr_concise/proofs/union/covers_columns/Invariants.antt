use Rattle.std.proofs.Common.{take}
use Rattle.mr_concise.proofs.Names.{Covers, vector_has}
use Rattle.mr_concise.proofs.union.covers_columns.Given as goal

abbrev pub invariant-loop-x : goal.invariant-loop-x
invariant-loop-x l = Covers (vector_has l.a) (vector_has (take l.x-index l.b))
