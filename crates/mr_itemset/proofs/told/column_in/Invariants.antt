use Rattle.std.proofs.Common.{◌≡◌, drop}
use Rattle.mr_concise.specs.Vector.{column_of}
use Rattle.mr_itemset.proofs.told.column_in.Given as goal

-- the author has the column that there is among those left
abbrev pub invariant-loop-x : goal.invariant-loop-x
invariant-loop-x l = column_of l.vector l.author ≡ column_of (drop l.x-index l.x-items) l.author
