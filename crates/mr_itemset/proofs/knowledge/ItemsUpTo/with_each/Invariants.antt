use Rattle.std.proofs.Common.{take}
use Rattle.mr_itemset.proofs.Names.{AreSame, normal_known, with_each}
use Rattle.mr_itemset.proofs.knowledge.ItemsUpTo.with_each.Given as goal

-- the items so far have the set
abbrev pub invariant-loop-item : goal.invariant-loop-item
invariant-loop-item g l = AreSame (normal_known l.grown) (with_each (normal_known l.self) (take l.item-index l.items) (g.S.Source.has l.set))
