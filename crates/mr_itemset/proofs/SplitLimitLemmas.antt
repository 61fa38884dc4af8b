use Rattle.std.proofs.Common.{ℕ, ◌≡◌, Bool, ap, sym, ◌∙◌, subst, List}
use Rattle.mr_itemset.proofs.Names.{AreSame, AuthorColumn, HasHoleyItem, HasRoomWith, IsNormal, IsSplit, IsTrue, ListsTooMany, Name, Normal, Pairs, Versions}
use Rattle.mr_itemset.proofs.Names.{normal_known, vector_has, with_below, ◌↔◌}
use Rattle.mr_forms.specs.Sets.{both}
use Rattle.mr_itemset.specs.ItemForm.{with_all}
use Rattle.mr_itemset.proofs.NormalLemmas.{normal_unique}
use Rattle.mr_itemset.proofs.WithLemmas.{lists_few-with}
use Rattle.mr_itemset.proofs.SplitLemmas.{all_twice, split_at}

-- ---- holes

pub holey_split : {limit : ℕ} (k settled : Normal) (pending : List AuthorColumn) (set : Versions) (result : Bool) → IsSplit limit k settled pending → IsTrue result ↔ HasHoleyItem (with_all (normal_known settled) (both set (vector_has pending))) → IsTrue result ↔ HasHoleyItem (with_all (normal_known k) set)
holey_split k settled pending set result split both_ways = (
  λ t. subst HasHoleyItem (sym (all_twice (normal_known k) (normal_known settled) (vector_has pending) set split.known)) (both_ways.0 t),
  λ holey. both_ways.1 (subst HasHoleyItem (all_twice (normal_known k) (normal_known settled) (vector_has pending) set split.known) holey),
)

-- ---- growth

pub folded_is : {limit : ℕ} (k settled : Normal) (pending : List AuthorColumn) (new : Normal) → IsSplit limit k settled pending → IsNormal limit new → AreSame (normal_known new) (with_all (normal_known settled) (vector_has pending)) → new ≡ k
folded_is k settled pending new split normal same = normal_unique new k normal split.normal (λ i v. same i v ∙ sym (split_at k settled pending i v split))

-- ---- several versions of all items

pub more_twice : {limit : ℕ} (k settled : Normal) (pending : List AuthorColumn) (item : Name) (learned set : Versions) → IsSplit limit k settled pending → with_below (with_all (normal_known k) learned) item set ≡ with_below (with_all (normal_known settled) (both learned (vector_has pending))) item set
more_twice k settled pending item learned set split = ap (λ (known : Pairs). with_below known item set) (all_twice (normal_known k) (normal_known settled) (vector_has pending) learned split.known)

pub holey_more-no : {limit : ℕ} (k settled : Normal) (pending : List AuthorColumn) (item : Name) (learned set : Versions) → IsSplit limit k settled pending → (HasHoleyItem (with_below (with_all (normal_known settled) (both learned (vector_has pending))) item set) → HasHoleyItem (with_all (normal_known settled) (both learned (vector_has pending)))) → HasHoleyItem (with_below (with_all (normal_known k) learned) item set) → HasHoleyItem (with_all (normal_known k) learned)
holey_more-no k settled pending item learned set split few_if holey =
    subst HasHoleyItem (sym (all_twice (normal_known k) (normal_known settled) (vector_has pending) learned split.known)) (few_if (subst HasHoleyItem (more_twice k settled pending item learned set split) holey))

pub room_more-yes : {limit : ℕ} (k settled : Normal) (pending : List AuthorColumn) (item : Name) (learned set : Versions) → IsSplit limit k settled pending → HasRoomWith limit settled (both learned (vector_has pending)) item set → ListsTooMany limit (with_below (with_all (normal_known k) learned) item set) → ⊥
room_more-yes {limit = limit} k settled pending item learned set split room many = lists_few-with settled (both learned (vector_has pending)) set item split.settled_ok room (subst (ListsTooMany limit) (more_twice k settled pending item learned set split) many)
