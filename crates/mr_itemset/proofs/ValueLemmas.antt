use Rattle.std.proofs.Common.{◌||◌, ℕ, Bool, false, List, Option, subst, ap, sym, ◌∙◌}
use Rattle.mr_itemset.proofs.Names.{AreSame, AuthorColumn, HasHoleyItem, HasLearned, HasValue, IsKept, IsNormal, IsSame, Name, Normal, Pairs, Versions}
use Rattle.mr_itemset.proofs.Names.{folded, items_form, normal_known, vector_has, with_some_below}
use Rattle.mr_forms.specs.Sets.{both}
use Rattle.mr_itemset.specs.ItemForm.{with_all}
use Rattle.mr_itemset.proofs.LimitLemmas.{lists_few}
use Rattle.mr_itemset.proofs.FoldedLemmas.{folded_known, folded_normal, folded_pairs, normal_few, same_pairs}
use Rattle.mr_itemset.proofs.SplitLemmas.{all_twice}

-- what a value knows has a value
pub known_value : {limit : ℕ} (k : Normal) (pairs : Pairs) → IsNormal limit k → AreSame (normal_known k) pairs → HasValue (items_form limit) pairs
known_value {limit = limit} k pairs normal same = subst (HasValue (items_form limit)) (same_pairs (normal_known k) pairs same) (normal_few k normal, lists_few k (λ _. false) normal)

-- what is kept has learned the versions that are pending then, and the set that is settled
pub has_learned : {limit : ℕ} (settled new : Normal) (pending more : List AuthorColumn) (few most : ℕ) (learned set : Versions) (item : Option Name) → IsKept limit settled pending few → IsKept limit new more most → IsSame (vector_has more) (both learned (vector_has pending))
    → AreSame (with_all (normal_known new) (both learned (vector_has pending))) (with_some_below (with_all (normal_known settled) (both learned (vector_has pending))) item set) → ¬ HasHoleyItem (with_all (normal_known (folded settled pending)) learned)
    → HasLearned limit (folded settled pending) (folded new more) learned item set
has_learned settled new pending more few most learned set item kept kept' has same few_holes = record {
  known = known;
  first = (few_holes, lists_few (folded settled pending) learned (folded_normal settled pending few kept));
  second = known_value (folded new more) (with_some_below (with_all (normal_known (folded settled pending)) learned) item set) (folded_normal new more most kept') known;
}
  where
    known : AreSame (normal_known (folded new more)) (with_some_below (with_all (normal_known (folded settled pending)) learned) item set)
    known = subst (λ (p : Pairs). AreSame (normal_known (folded new more)) (with_some_below p item set)) (sym (all_twice (normal_known (folded settled pending)) (normal_known settled) (vector_has pending) learned (folded_pairs settled pending few kept)))
        (λ i w. folded_known new more most kept' i w ∙ ap (λ (b : Bool). b || normal_known new i w) (has w) ∙ same i w)
