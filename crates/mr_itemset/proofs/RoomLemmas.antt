use Rattle.std.proofs.Common.{◌≡◌, ◌<◌, ◌⊎◌, ℕ, Bool, true, false, not, ◌||◌, List, [], ◌∷◌, length, get_or, AllPairs, Contains, refl, ap, sym, ◌∙◌, arith, inl, inr}
use Rattle.mr_itemset.proofs.Names.{AllByRecursion, Contains-cases, IsBefore, IsDistinct, IsDistinct-from_apart, Listed, Name, cases_Bool, false≢true}
use Rattle.mr_itemset.proofs.Names.{get_or-map, is_eq, items_of, length-map, list_any, name_eq, name_eq-itself, or_parts}
use Rattle.mr_itemset.proofs.NormalLemmas.{same_name}

pub none_by_recursion : (i : Name) (js : List Name) → list_any (name_eq i) js ≡ false → AllByRecursion (λ j. name_eq i j ≡ false) js
none_by_recursion i [] none = tt
none_by_recursion i (j ∷ js) none = let parts = or_parts (name_eq i j) (list_any (name_eq i) js) none in (parts.0, none_by_recursion i js parts.1)

pub items_distinct : (xs : List Listed) → AllPairs IsBefore xs → IsDistinct name_eq (items_of xs)
items_distinct xs rising = IsDistinct-from_apart name_eq (items_of xs) apart
  where
    apart : (i j : ℕ) (d : Name) → i < j → j < length (items_of xs) → name_eq (get_or (items_of xs) i d) (get_or (items_of xs) j d) ≡ false
    apart i j d less within =
        let fits : j < length xs = rw length-map at within in
        let e : Listed = record { item = d; vector = [] } in
        rw (get_or-map (λ x. x.item) xs i (record { item = d; vector = [] }) d (omega arith), get_or-map (λ x. x.item) xs j (record { item = d; vector = [] }) d fits)
        (ap is_eq (rising i j (record { item = d; vector = [] }) less fits))

or_right : (a b : Bool) → b ≡ true → (a || b) ≡ true
or_right true b e = refl
or_right false b e = e

pub listed_contained : (x : Listed) (ys : List Listed) → Contains ys x → list_any (name_eq x.item) (items_of ys) ≡ true
listed_contained x [] there = let within = there.1 in absurd (omega arith)
listed_contained x (y ∷ ys) there = grind (arith, listed_contained x ys, Contains-cases, name_eq-itself, or_right)

pub other_items : (item : Name) (xs : List Listed) (x : Listed) → list_any (name_eq item) (items_of xs) ≡ false → Contains xs x → name_eq item x.item ≡ false
other_items item xs x free has = go (cases_Bool (name_eq item x.item))
  where
    go : (name_eq item x.item ≡ true) ⊎ (name_eq item x.item ≡ false) → name_eq item x.item ≡ false
    go (inl same) = absurd (false≢true (sym free ∙ ap (λ (z : Name). list_any (name_eq z) (items_of xs)) (same_name item x.item same) ∙ listed_contained x xs has))
    go (inr other) = other

pub not_false : (b : Bool) → not b ≡ false → b ≡ true
not_false b e = grind arith
