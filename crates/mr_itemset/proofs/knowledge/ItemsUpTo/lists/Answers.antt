use Rattle.std.proofs.Common.{sym, ◌∙◌, inl, inr}
use Rattle.std.proofs.lemmas.Bool.{cases_Bool}
use Rattle.mr_itemset.proofs.SplitLemmas.{listed_yes, listed_no}
use Rattle.mr_itemset.proofs.knowledge.ItemsUpTo.lists.Goals as goal

pub returns : goal.returns
returns g c = elim (cases_Bool c.lacks.result) [
  | inl t ↦ t ∙ sym (listed_yes c.args.self.now c.parts-parts.result.settled.now c.parts-parts.result.pending.now c.args.item c.parts-parts.ensures (rw (c.for_all.ensures.is, c.vector_of.ensures.is) at (c.lacks.ensures.yes t)))
  | inr f ↦ f ∙ sym (listed_no c.args.self.now c.parts-parts.result.settled.now c.parts-parts.result.pending.now c.args.item c.parts-parts.ensures (rw (c.for_all.ensures.is, c.vector_of.ensures.is) at (c.lacks.ensures.no f)))
]
