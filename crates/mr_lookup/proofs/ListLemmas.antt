-- places in lists, and lists in one order
use Rattle.std.proofs.Common.{◌≡◌, ◌⊎◌, inl, inr, ⊎_elim, List, [], ◌∷◌, ◌++◌, length, All, AllPairs, Contains, append_assoc, length-append, refl, ap, sym, subst, ◌∙◌, arith}
use Rattle.std.proofs.lemmas.List.Elements.{All-contains}
use Rattle.mr_forms.proofs.PartLemmas.{AllPairs-head, AllPairs-tail, Contains-cases, Contains-here, Contains-there}

-- a list with more at its end begins as it did
pub split_longer : {X : Type 0} (xs front back rest : List X) → xs ≡ front ++ back → xs ++ rest ≡ front ++ (back ++ rest)
split_longer xs front back rest is = ap (λ (l : List _). l ++ rest) is ∙ append_assoc front back rest

-- of two beginnings of a list one is a beginning of the other
pub beginnings : {X : Type 0} (xs rest ys other : List X) → xs ++ rest ≡ ys ++ other → ((more : List X) × (ys ≡ xs ++ more)) ⊎ ((more : List X) × (xs ≡ ys ++ more))
beginnings [] rest ys other is = inl (ys, refl)
beginnings (x ∷ xs) rest [] other is = inr (x ∷ xs, refl)
beginnings (x ∷ xs) rest (y ∷ ys) other is = ⊎_elim
    (λ (h : (more : List _) × (ys ≡ xs ++ more)). inl (h.0, let same = h.1 in cc))
    (λ (h : (more : List _) × (xs ≡ ys ++ more)). inr (h.0, let same = h.1 in cc))
    (beginnings xs rest ys other cc)

-- two places in a list are one, or one of them is before the other
pub places : {X : Type 0} (xs rest ys other : List X) (x y : X) → xs ++ x ∷ rest ≡ ys ++ y ∷ other
    → ((xs ≡ ys) × (x ≡ y)) ⊎ (((more : List X) × (ys ≡ xs ++ x ∷ more)) ⊎ ((more : List X) × (xs ≡ ys ++ y ∷ more)))
places [] rest [] other x y is = inl (refl, cc)
places [] rest (z ∷ ys) other x y is = inr (inl (ys, cc))
places (z ∷ xs) rest [] other x y is = inr (inr (xs, cc))
places (z ∷ xs) rest (w ∷ ys) other x y is = ⊎_elim
    (λ (h : (xs ≡ ys) × (x ≡ y)). inl (let same = h.0 in cc, h.1))
    (⊎_elim
    (λ (h : (more : List _) × (ys ≡ xs ++ x ∷ more)). inr (inl (h.0, let same = h.1 in cc)))
    (λ (h : (more : List _) × (xs ≡ ys ++ y ∷ more)). inr (inr (h.0, let same = h.1 in cc))))
    (places xs rest ys other x y cc)

-- a place in a list with one more at its end is one before, or the end
pub ends : {X : Type 0} (before after es : List X) (x e : X) → before ++ x ∷ after ≡ es ++ e ∷ [] → ((rest : List X) × (es ≡ before ++ x ∷ rest)) ⊎ ((before ≡ es) × (x ≡ e))
ends before after es x e is = ⊎_elim
    (λ (here : (before ≡ es) × (x ≡ e)). inr here)
    (⊎_elim
    (λ (sooner : (rest : List _) × (es ≡ before ++ x ∷ rest)). inl sooner)
    (λ (later : (rest : List _) × (before ≡ es ++ e ∷ rest)). absurd (
    let long = ap length is in
    let front = ap length later.1 in
    let whole = length-append before (x ∷ after) in
    let one = length-append es (e ∷ []) in
    let more = length-append es (e ∷ later.0) in
    omega (arith, long, front, whole, one, more)
    )))
    (places before after es [] x e is)

-- ---- an order in which of two none stands before the other and behind it

module _ {X : Type 0} (R : X → X → Type 0) (once : (x y : X) → R x y → R y x → ⊥) where
  same_heads : (x y : X) (xs ys : List X) → All (R x) xs → All (R y) ys → (y ≡ x) ⊎ Contains ys x → (x ≡ y) ⊎ Contains xs y → x ≡ y
  same_heads x y xs ys before_xs before_ys (inl is) b = sym is
  same_heads x y xs ys before_xs before_ys (inr a) (inl is) = is
  same_heads x y xs ys before_xs before_ys (inr a) (inr b) = absurd (once x y (All-contains (R x) xs y before_xs b) (All-contains (R y) ys x before_ys a))

  in_tail : (x y z : X) (ys : List X) → x ≡ y → R x z → (y ≡ z) ⊎ Contains ys z → Contains ys z
  in_tail x y z ys same before (inl is) = let itself = subst (λ (w : X). R w z) (same ∙ is) before in absurd (once z z itself itself)
  in_tail x y z ys same before (inr there) = there

  -- Lists in this order that have the same are one: their heads are one, since else each would stand before the other, and then
  -- their tails have the same.
  pub one_list : (xs ys : List X) → AllPairs R xs → AllPairs R ys → ((z : X) → Contains xs z → Contains ys z) → ((z : X) → Contains ys z → Contains xs z) → xs ≡ ys
  one_list [] [] in_xs in_ys xy yx = refl
  one_list [] (y ∷ ys) in_xs in_ys xy yx = let has = yx y (Contains-here y ys) in let within = has.1 in absurd (omega arith)
  one_list (x ∷ xs) [] in_xs in_ys xy yx = let has = xy x (Contains-here x xs) in let within = has.1 in absurd (omega arith)
  one_list (x ∷ xs) (y ∷ ys) in_xs in_ys xy yx =
      let before_xs = AllPairs-head R x xs in_xs in
      let before_ys = AllPairs-head R y ys in_ys in
      let same = same_heads x y xs ys before_xs before_ys (Contains-cases y x ys (xy x (Contains-here x xs))) (Contains-cases x y xs (yx y (Contains-here y ys))) in
      let rest = one_list xs ys (AllPairs-tail R x xs in_xs) (AllPairs-tail R y ys in_ys)
      (λ z has. in_tail x y z ys same (All-contains (R x) xs z before_xs has) (Contains-cases y z ys (xy z (Contains-there x z xs has))))
      (λ z has. in_tail y x z xs (sym same) (All-contains (R y) ys z before_ys has) (Contains-cases x z xs (yx z (Contains-there y z ys has)))) in
      λ i. same i ∷ rest i
