-- a binary search by texts that rise finds what is among them
use Rattle.std.proofs.Common.{◌≡◌, ℕ, ◌+◌, ◌<◌, true, false, List, [], ◌∷◌, map, length, get_or, Result, Ok, Err, sym, ◌∙◌, ap, arith, inl, inr, refl}
use Rattle.mr_filter.proofs.Names.{Equal, Greater, HoldsAt, IsBinarySearchResult, IsPartitionPoint, IsSearchInRange, IsSortedBy, IsStrictlySortedBy, Less}
use Rattle.mr_filter.proofs.Names.{Less-from_sorted, cases_lt, get_or-map, has_label, is_eq, is_lt, is_ok, length-map, list_any-map, list_any_at}
use Rattle.mr_filter.proofs.Names.{list_any_none, nat_list_cmp_total, ordering_reverse, searchable_from_sorted, text_cmp, text_eq, texts_ties, tied_back}
use Rattle.std.specs.declared.cmp.Ordering.{Ordering}

-- what has texts that strictly rise is sorted by them
IsSortedBy-rising : {X : Type 0} (f : X → List ℕ) (xs : List X) → IsStrictlySortedBy text_cmp (map f xs) → IsSortedBy (λ a b. is_lt (text_cmp (f a) (f b))) xs
IsSortedBy-rising f xs rising k d low high =
    let next : k < k + 1 = omega arith in
    let long = length-map xs f in
    let less : text_cmp (f (get_or xs k d)) (f (get_or xs (k + 1) d)) ≡ Less =
    rw (← get_or-map f xs k d, ← get_or-map f xs (k + 1) d) (Less-from_sorted text_cmp (map f xs) k (k + 1) (f d) rising next (omega arith)) in
    ap is_lt (nat_list_cmp_total.antisymm (f (get_or xs (k + 1) d)) (f (get_or xs k d))) ∙ ap (λ o. is_lt (ordering_reverse o)) less

-- where a search finds nothing, it finds the place between what is below and what is above
pub partition_point : {X : Type 0} (f : X → List ℕ) (xs : List X) (label : List ℕ) (i : ℕ) → IsStrictlySortedBy text_cmp (map f xs) → IsBinarySearchResult (λ x. text_cmp (f x) label) xs (Err i) → IsPartitionPoint (λ x. text_cmp (f x) label ≡ Less) (λ x. text_cmp (f x) label ≡ Greater) xs i
partition_point f xs label i rising parts = parts (searchable_from_sorted nat_list_cmp_total f xs label (IsSortedBy-rising f xs rising))

-- what compares as equal is the same text
text_eq-equal : (x y : List ℕ) → text_cmp y x ≡ Equal → text_eq x y ≡ true
text_eq-equal x y same = texts_ties x y ∙ ap is_eq (tied_back nat_list_cmp_total y x same)

-- what compares otherwise is another
text_eq-other : (x y : List ℕ) (o : Ordering) → is_eq (ordering_reverse o) ≡ false → text_cmp y x ≡ o → text_eq x y ≡ false
text_eq-other x y o other was =
    texts_ties x y ∙ ap is_eq (nat_list_cmp_total.antisymm x y ∙ ap ordering_reverse was) ∙ other

found_at_place : {X : Type 0} (f : X → List ℕ) (xs : List X) (label : List ℕ) (i : ℕ) → i < length xs → HoldsAt (λ x. text_cmp (f x) label ≡ Equal) xs i → has_label (map f xs) label ≡ true
found_at_place f [] label i within at = absurd (omega arith)
found_at_place f (x ∷ xs) label i within at =
    list_any-map f (text_eq label) (x ∷ xs)
    ∙ list_any_at (λ y. text_eq label (f y)) (x ∷ xs) i x within (text_eq-equal label (f (get_or (x ∷ xs) i x)) (at x))

pub is_ok-binary_search : {X : Type 0} (f : X → List ℕ) (xs : List X) (label : List ℕ) (found : Result ℕ ℕ) → IsStrictlySortedBy text_cmp (map f xs) → IsSearchInRange found (length xs) → IsBinarySearchResult (λ x. text_cmp (f x) label) xs found → is_ok found ≡ has_label (map f xs) label
is_ok-binary_search f xs label (Ok i) rising within at = sym (found_at_place f xs label i within at)
is_ok-binary_search f xs label (Err i) rising within parts =
    let p = partition_point f xs label i rising parts in
    sym (list_any-map f (text_eq label) xs
    ∙ list_any_none (λ y. text_eq label (f y)) xs
    (λ k d below. elim (cases_lt k i) [
      | inl before ↦ text_eq-other label (f (get_or xs k d)) Less refl (p.0 k d (omega arith) before)
      | inr after ↦ text_eq-other label (f (get_or xs k d)) Greater refl (p.1 k d after below)
    ]))
