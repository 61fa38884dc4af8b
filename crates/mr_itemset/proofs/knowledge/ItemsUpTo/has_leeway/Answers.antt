use Rattle.mr_itemset.proofs.AtMostLemmas.{few_for_all}
use Rattle.mr_itemset.proofs.knowledge.ItemsUpTo.has_leeway.Goals as goal

pub returns : goal.returns
returns g c t holey =
    few_for_all c.self.inside.settled c.self.inside.pending c.self.inside.most_holes c.most_holes.result c.most_holes-added.result (g.A.Source.has c.args.learned.now) c.self.invariant c.most_holes.ensures.most c.most_holes-added.ensures.most (c.fit_together.ensures t) (rw (← c.self.view_is) at holey)
