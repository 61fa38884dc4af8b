use Rattle.std.proofs.Common.{All, take}
use Rattle.mr_itemset.proofs.Names.{HasHoleyItem, normal_known, with_below}
use Rattle.mr_itemset.proofs.knowledge.ItemsUpTo.would_be_holey_in.Given as goal

-- none of the items so far would have too many
abbrev pub invariant-loop-item : goal.invariant-loop-item
invariant-loop-item g l = All (λ item. ¬ HasHoleyItem (with_below (normal_known l.self) item (g.S.Source.has l.set))) (take l.item-index l.items)
