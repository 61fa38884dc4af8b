use Rattle.std.proofs.Common.{rules}
use Rattle.mr_itemset.proofs.sparing.SparingKnowledge.may_learn.Goals as goal

pub returns-else-goes_to_all : goal.returns-else-goes_to_all
returns-else-goes_to_all c = rw (← c.self.view_is, ← c.goes_to_all.ensures, c.if-goes_to_all.false) (search rules)
