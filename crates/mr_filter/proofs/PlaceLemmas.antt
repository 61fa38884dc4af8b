-- a label put at its place among labels that rise
use Rattle.std.proofs.Common.{◌≡◌, ℕ, ◌≤◌, ◌||◌, Bool, true, false, List, [], ◌∷◌, ◌++◌, map, length, take, drop, take-append-drop, sym, ◌∙◌, ap, subst, arith}
use Rattle.mr_filter.proofs.Names.{All-permutation, All-push, AllByRecursion, AllByRecursion-map, AllPass, AllWithin, AreLabelsOf, Greater, IsDistinct}
use Rattle.mr_filter.proofs.Names.{IsDistinct-from_sorted, IsDistinct-push, IsPartitionPoint, IsPermutation, IsPermutation-insert, IsPermutation-map}
use Rattle.mr_filter.proofs.Names.{IsPermutation-to_front, IsPermutation-trans, Less, different_labels, distinct_count-from_IsDistinct}
use Rattle.std.specs.List.Sorted.{IsStrictlySortedBy}
use Rattle.mr_filter.proofs.Names.{eq_by_cmp, get_or-drop, get_or-take, has_label, insert, is_label, length-drop, length-take-le, list_any-IsPermutation}
use Rattle.mr_filter.proofs.Names.{list_any-append, list_any_congr, map-append, nat_list_cmp_total, nat_list_eq_equiv, ordering_reverse, recursion_from_All}
use Rattle.mr_filter.proofs.Names.{text_cmp, text_eq, texts_ties}

-- what lies before a place, and what lies from it on
before_place : {X : Type 0} (P : X → Type 0) (xs : List X) (i : ℕ) → i ≤ length xs → AllWithin P xs 0 i → AllByRecursion P (take i xs)
before_place P xs i within each = grind (arith, recursion_from_All, length-take-le, get_or-take)

from_place : {X : Type 0} (P : X → Type 0) (xs : List X) (i : ℕ) → i ≤ length xs → AllWithin P xs i (length xs) → AllByRecursion P (drop i xs)
from_place P xs i within each = grind (arith, recursion_from_All, length-drop, get_or-drop)

AllByRecursion-between : {X : Type 0} (P : X → Type 0) (front back : List X) (x : X) → AllByRecursion P (front ++ back) → P x → AllByRecursion P (front ++ x ∷ back)
AllByRecursion-between P [] back x each here = (here, each)
AllByRecursion-between P (y ∷ front) back x each here = (each.0, AllByRecursion-between P front back x each.1 here)

-- a label between those below it and those above it leaves them rising
rising-between : (front back : List (List ℕ)) (label : List ℕ) → IsStrictlySortedBy text_cmp (front ++ back) → AllByRecursion (λ t. text_cmp t label ≡ Less) front → AllByRecursion (λ t. text_cmp label t ≡ Less) back → IsStrictlySortedBy text_cmp (front ++ label ∷ back)
unfolding IsStrictlySortedBy
rising-between [] back label rising below above = (above, rising)
rising-between (x ∷ front) back label rising below above =
    (AllByRecursion-between (λ t. text_cmp x t ≡ Less) front back label rising.0 below.0, rising-between front back label rising.1 below.1 above)

above_label : {X : Type 0} (f : X → List ℕ) (label : List ℕ) (xs : List X) → AllByRecursion (λ x. text_cmp (f x) label ≡ Greater) xs → AllByRecursion (λ t. text_cmp label t ≡ Less) (map f xs)
above_label f label [] each = tt
above_label f label (x ∷ xs) each =
    (nat_list_cmp_total.antisymm label (f x) ∙ ap ordering_reverse each.0, above_label f label xs each.1)

pub rising-insert : {X : Type 0} (f : X → List ℕ) (xs : List X) (i : ℕ) (y : X) → i ≤ length xs → IsStrictlySortedBy text_cmp (map f xs) → IsPartitionPoint (λ x. text_cmp (f x) (f y) ≡ Less) (λ x. text_cmp (f x) (f y) ≡ Greater) xs i → IsStrictlySortedBy text_cmp (map f (insert xs i y))
rising-insert f xs i y within rising parts =
    let whole : map f xs ≡ map f (take i xs) ++ map f (drop i xs) = ap (map f) (sym (take-append-drop i xs)) ∙ map-append f (take i xs) (drop i xs) in
    rw (map-append f (take i xs) (y ∷ drop i xs))
    (rising-between (map f (take i xs)) (map f (drop i xs)) (f y) (subst (IsStrictlySortedBy text_cmp) whole rising)
    (AllByRecursion-map f (λ t. text_cmp t (f y) ≡ Less) (take i xs) (before_place (λ x. text_cmp (f x) (f y) ≡ Less) xs i within parts.0))
    (above_label f (f y) (drop i xs) (from_place (λ x. text_cmp (f x) (f y) ≡ Greater) xs i within parts.1)))

-- an insertion adds the label, wherever it puts it
IsPermutation-placed : {X : Type 0} (f : X → List ℕ) (xs : List X) (i : ℕ) (y : X) → IsPermutation (map f xs ++ f y ∷ []) (map f (insert xs i y))
IsPermutation-placed f xs i y =
    IsPermutation-trans (map f xs ++ f y ∷ []) (f y ∷ map f xs) (map f (insert xs i y)) (IsPermutation-to_front (map f xs) (f y))
    (IsPermutation-map f (y ∷ xs) (insert xs i y) (IsPermutation-insert xs i y))

pub AreLabelsOf-insert : {X : Type 0} (f : X → List ℕ) (xs : List X) (i : ℕ) (y : X) → IsStrictlySortedBy text_cmp (map f (insert xs i y)) → AreLabelsOf (map f xs ++ f y ∷ []) (map f (insert xs i y))
AreLabelsOf-insert f xs i y rising = grind (arith, list_any-IsPermutation, IsPermutation-placed)

pub AllPass-insert : {X : Type 0} (f : X → List ℕ) (xs : List X) (i : ℕ) (y : X) → AllPass is_label (map f xs) → is_label (f y) ≡ true → AllPass is_label (map f (insert xs i y))
AllPass-insert f xs i y each here =
    All-permutation (λ t. is_label t ≡ true) (map f xs ++ f y ∷ []) (map f (insert xs i y)) (IsPermutation-placed f xs i y)
    (All-push (λ t. is_label t ≡ true) (map f xs) (f y) each here)

-- a label that is there already adds nothing
found_again : (same rest : Bool) → (same ≡ true → rest ≡ true) → rest ≡ (rest || (same || false))
found_again same rest again = grind arith

pub AreLabelsOf-again : (labels : List (List ℕ)) (label : List ℕ) → IsStrictlySortedBy text_cmp labels → has_label labels label ≡ true → AreLabelsOf (labels ++ label ∷ []) labels
AreLabelsOf-again labels label rising has = record {
  rising = rising;
  same = λ other.
      found_again (text_eq other label) (has_label labels other) (λ same. list_any_congr nat_list_eq_equiv other label labels same ∙ has)
      ∙ sym (list_any-append (text_eq other) labels (label ∷ []));
}

-- labels that rise differ, and so does one more that is not among them
IsDistinct-rising : (labels : List (List ℕ)) → IsStrictlySortedBy text_cmp labels → IsDistinct text_eq labels
IsDistinct-rising labels rising =
    let same_test : eq_by_cmp text_cmp ≡ text_eq = λ i a b. sym (texts_ties a b) i in
    subst (λ e. IsDistinct e labels) same_test (IsDistinct-from_sorted text_cmp labels rising)

pub different_labels-rising : (labels : List (List ℕ)) → IsStrictlySortedBy text_cmp labels → different_labels labels ≡ length labels
different_labels-rising labels rising = distinct_count-from_IsDistinct nat_list_eq_equiv labels (IsDistinct-rising labels rising)

pub different_labels-one_more : (labels : List (List ℕ)) (label : List ℕ) → IsStrictlySortedBy text_cmp labels → has_label labels label ≡ false → different_labels (labels ++ label ∷ []) ≡ length (labels ++ label ∷ [])
different_labels-one_more labels label rising absent =
    distinct_count-from_IsDistinct nat_list_eq_equiv (labels ++ label ∷ []) (IsDistinct-push nat_list_eq_equiv labels label (IsDistinct-rising labels rising) absent)
