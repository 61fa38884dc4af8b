use Rattle.std.proofs.Common.{◌∙◌}
use Rattle.mr_itemset.proofs.EntryLemmas.{listed-lookup}
use Rattle.mr_itemset.proofs.settled.Settled.lists.Goals as goal

pub returns : goal.returns
returns g c = rw (← c.listed.ensures.is) (c.contains_key.ensures ∙ listed-lookup c.listed.result.now.entries c.args.item)
