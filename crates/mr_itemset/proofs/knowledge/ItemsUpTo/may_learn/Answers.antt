use Rattle.mr_itemset.proofs.RefusalLemmas.{once_holes, once_items}
use Rattle.mr_itemset.proofs.knowledge.ItemsUpTo.may_learn.Goals as goal

pub returns-clause-holes : goal.returns-clause-holes
returns-clause-holes g c = once_holes _ c.may_grow.ensures.holes

pub returns-clause-items : goal.returns-clause-items
returns-clause-items g c = once_items _ c.may_grow.ensures.items
