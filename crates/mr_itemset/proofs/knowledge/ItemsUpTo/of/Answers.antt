use Rattle.mr_itemset.proofs.FoldedLemmas.{folded_nothing}
use Rattle.mr_itemset.proofs.KeptLemmas.{kept_alone}
use Rattle.mr_itemset.proofs.knowledge.ItemsUpTo.of.Goals as goal

pub returns : goal.returns
returns g c =
    rw c.new-pending.ensures.is
    (folded_nothing c.args.settled c.most_holes-most_holes.result (kept_alone c.args.settled c.most_holes-most_holes.result c.most_holes-most_holes.ensures.normal c.most_holes-most_holes.ensures.most c.most_holes-most_holes.ensures.bound))
