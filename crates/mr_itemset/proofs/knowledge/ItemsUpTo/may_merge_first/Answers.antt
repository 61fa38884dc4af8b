use Rattle.mr_itemset.specs.Normal.{normal_known}
use Rattle.mr_itemset.proofs.MergingLemmas.{first_value}
use Rattle.mr_itemset.proofs.knowledge.ItemsUpTo.may_merge_first.Goals as goal

pub returns-in-len1-up-clause-ok : goal.returns-in-len1-up-clause-ok
returns-in-len1-up-clause-ok g c =
    first_value g.row.LIMIT g.S.VersionSet.has (normal_known c.args.self.now) c.args.fragments.now c.first-item.result c.may_merge.result c.in-len1-up.len_at_least c.first-item.is c.may_merge.ensures.holes c.may_merge.ensures.items
