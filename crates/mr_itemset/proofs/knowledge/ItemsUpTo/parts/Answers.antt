use Rattle.mr_itemset.proofs.SplitLemmas.{split_is}
use Rattle.mr_itemset.proofs.knowledge.ItemsUpTo.parts.Goals as goal

pub returns : goal.returns
returns g c = rw (← c.self.view_is) (split_is c.self.inside.settled c.self.inside.pending c.self.inside.most_holes c.self.invariant)
