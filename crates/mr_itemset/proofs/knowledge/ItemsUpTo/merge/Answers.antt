use Rattle.mr_itemset.proofs.knowledge.ItemsUpTo.merge.Goals as goal

pub returns-in-All-clause-items : goal.returns-in-All-clause-items
returns-in-All-clause-items g c = rw c.in-All.is c.learn_for_all.ensures.items

pub returns-in-Listed-clause-items : goal.returns-in-Listed-clause-items
returns-in-Listed-clause-items g c = rw c.in-Listed.is (rw c.deref.ensures.value at c.learn_for_each.ensures.items)

pub returns-in-All-clause-ok : goal.returns-in-All-clause-ok
returns-in-All-clause-ok g c = rw c.in-All.is c.learn_for_all.ensures.ok

pub returns-in-Listed-clause-ok : goal.returns-in-Listed-clause-ok
returns-in-Listed-clause-ok g c = rw c.in-Listed.is (rw c.deref.ensures.value at c.learn_for_each.ensures.ok)

pub returns-in-All-clause-holes : goal.returns-in-All-clause-holes
returns-in-All-clause-holes g c = rw c.in-All.is c.learn_for_all.ensures.holes

pub returns-in-Listed-clause-holes : goal.returns-in-Listed-clause-holes
returns-in-Listed-clause-holes g c = rw c.in-Listed.is (rw c.deref.ensures.value at c.learn_for_each.ensures.holes)
