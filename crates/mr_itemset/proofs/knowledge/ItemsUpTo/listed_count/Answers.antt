use Rattle.std.proofs.Common.{◌∙◌, lit<}
use Rattle.mr_itemset.proofs.CountLemmas.{folded_listed}
use Rattle.mr_itemset.proofs.FoldedLemmas.{folded_normal, kept_fits-all, kept_fits-listed}
use Rattle.mr_itemset.proofs.knowledge.ItemsUpTo.listed_count.Goals as goal

pub count_beyond-requires : goal.count_beyond-requires
count_beyond-requires g c = (
  lit< tt,
  (
    c.self.invariant.vector_ok,
    (
      kept_fits-all c.self.inside.settled c.self.inside.pending c.self.inside.most_holes c.self.invariant,
      kept_fits-listed c.self.inside.settled c.self.inside.pending c.self.inside.most_holes c.self.invariant,
    ),
  ),
)

pub returns-clause-count : goal.returns-clause-count
returns-clause-count g c = rw (← c.self.view_is) (c.count_beyond.ensures.count ∙ folded_listed c.self.inside.settled c.self.inside.pending)

pub returns-clause-normal : goal.returns-clause-normal
returns-clause-normal g c = rw (← c.self.view_is) (folded_normal c.self.inside.settled c.self.inside.pending c.self.inside.most_holes c.self.invariant)
