use Rattle.mr_itemset.proofs.RefusalLemmas.{once_holes, once_items}
use Rattle.mr_itemset.proofs.knowledge.ItemsUpTo.may_merge.Goals as goal

pub returns-in-All-clause-holes : goal.returns-in-All-clause-holes
returns-in-All-clause-holes g c = rw c.in-All.is (once_holes _ c.may_grow.ensures.holes)

pub returns-in-All-clause-items : goal.returns-in-All-clause-items
returns-in-All-clause-items g c = rw c.in-All.is (once_items _ c.may_grow.ensures.items)

pub returns-in-Listed-clause-items : goal.returns-in-Listed-clause-items
returns-in-Listed-clause-items g c = rw c.in-Listed.is (rw c.deref.ensures.value at c.may_learn_for_each.ensures.items)
