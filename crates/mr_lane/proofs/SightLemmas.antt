-- Lists of sights, by the numbers of their passes.
use Rattle.std.proofs.Common.{◌≡◌, ◌≢◌, ℕ, zero, suc, List, [], ◌∷◌, ◌++◌, length, set, sym, refl, ap, ◌⊎◌, inl, inr, ⊎_elim, arith}
use mathlib.Core.Option.{some, some-ne-none, some-injective}
use lib.ListN.{get_elem?}
use Rattle.crossbeam_queue.proofs.Lists.{at_set}

module _ {V : Type 0} where
  -- the fact holds of each pass's number and sight
  abbrev pub AllSights : (ℕ → V → Type 0) → List V → Type 0
  AllSights F sights = (pass : ℕ) (s : V) → get_elem? sights pass ≡ some s → F pass s

  -- it holds of a lone sight
  pub only_one : (F : ℕ → V → Type 0) (s : V) → F 0 s → AllSights F (s ∷ [])
  only_one F s h k v e = grind arith

  -- it holds after one sight was changed, where it holds of that one and of the others
  pub all_set : (F : ℕ → V → Type 0) (sights : List V) (pass : ℕ) (s : V) → F pass s → ((j : ℕ) (u : V) → j ≢ pass → get_elem? sights j ≡ some u → F j u) → AllSights F (set sights pass s)
  all_set F sights pass s mine others j u e = grind (arith, ⊎_elim, at_set)

  -- what stands in a list with one more at its end stood there before, or is that one
  pub snoc_cases : (l : List V) (a b : V) (j : ℕ) → get_elem? (l ++ a ∷ []) j ≡ some b → (get_elem? l j ≡ some b) ⊎ ((j ≡ length l) × (a ≡ b))
  snoc_cases [] a b zero e = inr (refl, some-injective a b e)
  snoc_cases [] a b (suc j) e = absurd (some-ne-none b (sym e))
  snoc_cases (x ∷ xs) a b zero e = inl e
  snoc_cases (x ∷ xs) a b (suc j) e = ⊎_elim (λ h. inl h) (λ h. inr (ap suc h.0, h.1)) (snoc_cases xs a b j e)
