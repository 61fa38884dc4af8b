use Rattle.std.proofs.Common.{map}
use Rattle.mr_itemset.proofs.GroupingLemmas.{GroupsSoFar}
use Rattle.mr_itemset.proofs.WalkLemmas.{lent}
use Rattle.mr_itemset.proofs.settled.Settled.told_groups.Given as goal

-- of the items so far it is told, and that is grouped
abbrev pub invariant-loop-item : goal.invariant-loop-item
invariant-loop-item g l = GroupsSoFar l.all (map lent l.yielded) l.grouping
