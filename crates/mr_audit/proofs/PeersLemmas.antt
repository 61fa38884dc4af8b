-- The ids that are tried.
use Rattle.std.proofs.Common.{◌≡◌, ◌+◌, ◌++◌, ℕ, zero, suc, Bool, true, false, cond, List, [], ◌∷◌, ◌∙◌, refl, sym, ap, arith}
use Rattle.std.specs.Prelude.{filter}
use Rattle.std.specs.List.{range_with_len}

-- one more number that is tried
pub one_more : (p : ℕ → Bool) (a n j : ℕ) → a + n ≡ j → filter p (range_with_len a (n + 1)) ≡ filter p (range_with_len a n) ++ cond (p j) (j ∷ []) []
one_more p a zero j is = let same : a ≡ j = omega arith in rw same refl
one_more p a (suc n) j is =
    let next : (a + 1) + n ≡ j = omega arith in
    let rest = one_more p (a + 1) n j next in
    let more : suc n + 1 ≡ suc (n + 1) = omega arith in
    rw more (rw rest (
    elim (p a) as (λ t. cond t (a ∷ (filter p (range_with_len (a + 1) n) ++ cond (p j) (j ∷ []) [])) (filter p (range_with_len (a + 1) n) ++ cond (p j) (j ∷ []) []) ≡ cond t (a ∷ filter p (range_with_len (a + 1) n)) (filter p (range_with_len (a + 1) n)) ++ cond (p j) (j ∷ []) []) [
      | true ↦ refl
      | false ↦ refl
    ]
    ))

-- what is kept of the numbers so far, with the one at hand
pub one_tried : (p : ℕ → Bool) (n m : ℕ) (before after : List ℕ) → m ≡ n → before ≡ filter p (range_with_len 0 n) → after ≡ before ++ cond (p m) (m ∷ []) [] → after ≡ filter p (range_with_len 0 (n + 1))
one_tried p n m before after is so_far pushed =
    let from_0 : 0 + n ≡ m = omega arith in
    pushed ∙ ap (λ (l : List ℕ). l ++ cond (p m) (m ∷ []) []) so_far ∙ sym (one_more p 0 n m from_0)
