use Rattle.mr_itemset.proofs.sparing.SparingKnowledge.items.Goals as goal

pub returns-clause-normal : goal.returns-clause-normal
returns-clause-normal c = rw (← c.self.view_is) c.parts-parts.ensures.normal
