use Rattle.std.proofs.Common.{◌≡◌, ◌⊎◌, suc, List, [], ◌∷◌, Option, All, AllPairs, Contains, map, refl, ap, sym, ◌∙◌, arith, inl, inr}
use Rattle.mr_forms.proofs.Names.{All-contains, ArePartsThat, ComesFirst, Less, Name, Part, get_or-map, length-map, name_cmp, names_total, tied_itself}

-- ---- lists by head and tail

pub AllPairs-head : {X : Type 0} (R : X → X → Type 0) (x : X) (xs : List X) → AllPairs R (x ∷ xs) → All (R x) xs
AllPairs-head R x xs all k d within = all 0 (suc k) d (omega arith) (omega arith)

pub AllPairs-tail : {X : Type 0} (R : X → X → Type 0) (x : X) (xs : List X) → AllPairs R (x ∷ xs) → AllPairs R xs
AllPairs-tail R x xs all i j d less within = all (suc i) (suc j) d (omega arith) (omega arith)

pub Contains-here : {X : Type 0} (x : X) (xs : List X) → Contains (x ∷ xs) x
Contains-here x xs = (0, omega arith, refl)

pub Contains-there : {X : Type 0} (x y : X) (xs : List X) → Contains xs y → Contains (x ∷ xs) y
Contains-there x y xs (k, within, is) = (suc k, omega arith, is)

pub Contains-cases : {X : Type 0} (x y : X) (xs : List X) → Contains (x ∷ xs) y → (x ≡ y) ⊎ Contains xs y
Contains-cases x y xs h = grind arith

pub Contains-map : {X Y : Type 0} (f : X → Y) (x : X) (xs : List X) → Contains xs x → Contains (map f xs) (f x)
Contains-map f x xs (k, within, is) = (k, rw length-map within, get_or-map f xs k x (f x) within ∙ ap f is)

-- ---- one order

less_not_more : (a b : Name) → name_cmp a b ≡ Less → name_cmp b a ≡ Less → ⊥
less_not_more a b ab ba = let round = names_total.trans a b a ab ba in let same = tied_itself names_total a in cc

-- no part stands before one that stands before it
comes_first-once : (a b : Option (List Name)) → ComesFirst a b → ComesFirst b a → ⊥
comes_first-once a b ab ba = grind (arith, less_not_more)

-- Lists in order that have the same parts are one: their heads are one, since else each would stand before the other,
-- and then their tails have the same parts.
pub parts_unique : (xs ys : List Part) → AllPairs (λ p q. ComesFirst p.items q.items) xs → AllPairs (λ p q. ComesFirst p.items q.items) ys → ((p : Part) → Contains xs p → Contains ys p) → ((p : Part) → Contains ys p → Contains xs p) → xs ≡ ys
parts_unique [] [] ox oy xy yx = refl
parts_unique [] (y ∷ ys) ox oy xy yx = let has = yx y (Contains-here y ys) in let within = has.1 in absurd (omega arith)
parts_unique (x ∷ xs) [] ox oy xy yx = let has = xy x (Contains-here x xs) in let within = has.1 in absurd (omega arith)
parts_unique (x ∷ xs) (y ∷ ys) ox oy xy yx =
    let same = heads (Contains-cases y x ys (xy x (Contains-here x xs))) (Contains-cases x y xs (yx y (Contains-here y ys))) in
    let rest = parts_unique xs ys (AllPairs-tail R x xs ox) (AllPairs-tail R y ys oy)
    (λ p has. drop_head x y ys p same (All-contains (λ q. ComesFirst x.items q.items) xs p (AllPairs-head R x xs ox) has) (Contains-cases y p ys (xy p (Contains-there x p xs has))))
    (λ p has. drop_head y x xs p (sym same) (All-contains (λ q. ComesFirst y.items q.items) ys p (AllPairs-head R y ys oy) has) (Contains-cases x p xs (yx p (Contains-there y p ys has)))) in
    cc
  where
    R : Part → Part → Type 0
    R p q = ComesFirst p.items q.items

    heads : (y ≡ x) ⊎ Contains ys x → (x ≡ y) ⊎ Contains xs y → x ≡ y
    heads (inl e) b = sym e
    heads (inr a) (inl e) = e
    heads (inr a) (inr b) = absurd (comes_first-once x.items y.items (All-contains (λ q. ComesFirst x.items q.items) xs y (AllPairs-head R x xs ox) b) (All-contains (λ q. ComesFirst y.items q.items) ys x (AllPairs-head R y ys oy) a))

    drop_head : (a b : Part) (bs : List Part) (p : Part) → a ≡ b → ComesFirst a.items p.items → (b ≡ p) ⊎ Contains bs p → Contains bs p
    drop_head a b bs p same before (inl e) = let loop : ComesFirst p.items p.items = rw (same ∙ e) at before in absurd (comes_first-once p.items p.items loop loop)
    drop_head a b bs p same before (inr has) = has

-- the parts that have a property are one list
pub parts_that-unique : (is_part : Part → Type 0) (xs ys : List Part) → ArePartsThat is_part xs → ArePartsThat is_part ys → xs ≡ ys
parts_that-unique is_part xs ys a b = grind (arith, parts_unique, All-contains)
