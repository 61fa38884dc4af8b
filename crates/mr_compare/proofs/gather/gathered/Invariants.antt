use Rattle.std.proofs.Common.{◌≡◌}
use Rattle.mr_compare.specs.Gather.{values_at, values_of}
use Rattle.mr_compare.proofs.gather.gathered.Given as goal

-- the table has the values of the pairs so far
abbrev pub invariant-loop-pair : goal.invariant-loop-pair
invariant-loop-pair g l = (key : g.row.K.Denot) → values_at g.K.Ord.cmp l.table.entries key ≡ values_of g.K.Ord.cmp key l.yielded
