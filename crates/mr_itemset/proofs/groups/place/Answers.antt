use Rattle.std.proofs.Common.{refl, ◌∙◌, inl, inr}
use Rattle.mr_itemset.proofs.GroupLemmas.{none_takes}
use Rattle.mr_itemset.proofs.groups.place.Goals as goal

pub returns-clause-none : goal.returns-clause-none
returns-clause-none c none = none_takes c.args.groups.now c.args.vector.now c.args.slots.now c.args.others.now c.requires.noted (λ at noted. elim noted [
  | inl slot ↦ c.in_default.ensures.none refl at (c.noted_in_slot.ensures ∙ slot)
  | inr map ↦ c.checked-2.ensures.none none at (c.copied.ensures ∙ c.get.ensures.value ∙ map)
])
