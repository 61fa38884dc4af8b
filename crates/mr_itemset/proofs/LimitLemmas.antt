use Rattle.std.proofs.Common.{◌≡◌, ◌⊎◌, ◌||◌, ◌+◌, ℕ, suc, true, false, All, Contains, List, [], ◌∷◌, length, ap, sym, ◌∙◌, subst, arith, inl, inr}
use Rattle.mr_itemset.proofs.Names.{All-contains, All-head, All-tail, AuthorColumn, HasHoleyItem, HasTooManyHoles, IsNormal, IsSame, Listed, ListsTooMany}
use Rattle.mr_itemset.proofs.Names.{Name, Normal, Versions, cases_Bool, eq_by_cmp_equiv, false≢true, items_of, length-le_from_is_member, length-map, list_any}
use Rattle.mr_itemset.proofs.Names.{name_eq, names_total, normal_known, or_cases, vector_has, vector_in}
use Rattle.mr_forms.specs.Sets.{both}
use Rattle.mr_itemset.specs.ItemForm.{with_all}
use Rattle.mr_itemset.proofs.NormalLemmas.{same_name, top, free-above, vector_in-unlisted, vector_in-has, vector_in-cases}

-- some item is not listed
pub free_item : (k : Normal) → (i : Name) × (vector_in k.all k.listed i ≡ k.all)
free_item k = (record { author = 0; counter = suc (top (items_of k.listed)) }, vector_in-unlisted k.all k.listed (record { author = 0; counter = suc (top (items_of k.listed)) }) (free-above (suc (top (items_of k.listed))) (items_of k.listed) (omega arith)))

with_set : Versions → List AuthorColumn → Type 0
with_set set columns = HasTooManyHoles (λ v. set v || vector_has columns v)

pub holey_all : (k : Normal) (set : Versions) → HasTooManyHoles (both set (vector_has k.all)) → HasHoleyItem (with_all (normal_known k) set)
unfolding with_set
holey_all k set many = let f = free_item k in record { item = f.0; holes = subst (with_set set) (sym f.1) many }

pub holey_listed : {limit : ℕ} (k : Normal) (set : Versions) (x : Listed) → IsNormal limit k → Contains k.listed x → HasTooManyHoles (both set (vector_has x.vector)) → HasHoleyItem (with_all (normal_known k) set)
unfolding with_set
holey_listed k set x normal has many = record { item = x.item; holes = subst (with_set set) (sym (vector_in-has k.all k.listed x normal.rising has)) many }

pub not_holey : (k : Normal) (set : Versions) → (HasTooManyHoles (both set (vector_has k.all)) → ⊥) → All (λ x. HasTooManyHoles (both set (vector_has x.vector)) → ⊥) k.listed → HasHoleyItem (with_all (normal_known k) set) → ⊥
unfolding with_set
not_holey k set few each holey = go (vector_in-cases k.all k.listed holey.item)
  where
    go : (vector_in k.all k.listed holey.item ≡ k.all) ⊎ ((x : Listed) × (Contains k.listed x × ((x.item ≡ holey.item) × (vector_in k.all k.listed holey.item ≡ x.vector)))) → ⊥
    go (inl none) = few (subst (with_set set) none holey.holes)
    go (inr some) = All-contains (λ x. HasTooManyHoles (both set (vector_has x.vector)) → ⊥) k.listed some.0 each some.1.0 (subst (with_set set) some.1.1.1 holey.holes)

-- ---- how many items are listed

pub any_all : (P : Name → Type 0) (xs : List Name) (q : Name) → All P xs → list_any (name_eq q) xs ≡ true → P q
any_all P [] q all any = absurd (false≢true any)
any_all P (x ∷ xs) q all any = go (or_cases (name_eq q x) (list_any (name_eq q) xs) any) (λ there. any_all P xs q (All-tail P x xs all) there)
  where
    go : (name_eq q x ≡ true) ⊎ (list_any (name_eq q) xs ≡ true) → (list_any (name_eq q) xs ≡ true → P q) → P q
    go (inl here) rest = rw (same_name q x here) (All-head P x xs all)
    go (inr there) rest = rest there

-- what is known of no listed item is known of all but some
listed_only : {limit : ℕ} (k : Normal) (set : Versions) (many : ListsTooMany limit (with_all (normal_known k) set)) (q : Name) → list_any (name_eq q) many.items ≡ true → list_any (name_eq q) (items_of k.listed) ≡ true
listed_only k set many q any = go (cases_Bool (list_any (name_eq q) (items_of k.listed)))
  where
    n : ℕ
    n = suc (top many.items + top (items_of k.listed))

    rest : IsSame (with_all (normal_known k) set (record { author = 0; counter = suc (top many.items + top (items_of k.listed)) })) many.all
    rest = many.rest (record { author = 0; counter = suc (top many.items + top (items_of k.listed)) }) (free-above (suc (top many.items + top (items_of k.listed))) many.items (omega arith))

    all_is : (v : Name) → (set v || vector_has k.all v) ≡ many.all v
    all_is v = ap (λ (c : List AuthorColumn). set v || vector_has c v) (sym (vector_in-unlisted k.all k.listed (record { author = 0; counter = suc (top many.items + top (items_of k.listed)) }) (free-above (suc (top many.items + top (items_of k.listed))) (items_of k.listed) (omega arith)))) ∙ rest v

    go : (list_any (name_eq q) (items_of k.listed) ≡ true) ⊎ (list_any (name_eq q) (items_of k.listed) ≡ false) → list_any (name_eq q) (items_of k.listed) ≡ true
    go (inl listed) = listed
    go (inr free) = absurd (any_all (λ i. ¬ IsSame (with_all (normal_known k) set i) many.all) many.items q many.more any
        (λ v. ap (λ (c : List AuthorColumn). set v || vector_has c v) (vector_in-unlisted k.all k.listed q free) ∙ all_is v))

-- versions that all items learn list no item
pub lists_few : {limit : ℕ} (k : Normal) (set : Versions) → IsNormal limit k → ListsTooMany limit (with_all (normal_known k) set) → ⊥
lists_few k set normal many =
    let fits = length-le_from_is_member (eq_by_cmp_equiv names_total) many.items (items_of k.listed) many.distinct (listed_only k set many) in
    let same : length (items_of k.listed) ≡ length k.listed = length-map k.listed (λ x. x.item) in
    let few = normal.few in
    let over = many.many in
    omega arith
