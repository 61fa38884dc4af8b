use Rattle.std.proofs.Common.{◌∙◌}
use Rattle.mr_itemset.proofs.EntryLemmas.{listed_of-values}
use Rattle.mr_itemset.proofs.settled.Settled.vectors.Goals as goal

pub returns-clause-is : goal.returns-clause-is
returns-clause-is g c = rw (← c.self.view_is) (c.values.ensures.rest ∙ listed_of-values c.self.inside.listed.entries)
