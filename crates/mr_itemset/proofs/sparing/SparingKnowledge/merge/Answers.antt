use Rattle.mr_itemset.proofs.sparing.SparingKnowledge.merge.Goals as goal

pub returns-clause-items : goal.returns-clause-items
returns-clause-items g c = rw (← c.self.view_is) c.merge.ensures.items
