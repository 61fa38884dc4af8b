use Rattle.mr_itemset.proofs.sparing.SparingKnowledge.learn_below.Goals as goal

pub returns-clause-items : goal.returns-clause-items
returns-clause-items g c = rw (← c.self.view_is) c.learn_below.ensures.items
