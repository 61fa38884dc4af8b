-- A function of numbers, with another value at one of them.
use Rattle.std.proofs.Common.{◌≡◌, ◌≢◌, ℕ, ◌==◌, Bool, true, false, cond, refl, ap, arith}
use Rattle.std.proofs.lemmas.Bool.{eqb-true, eq-eqb}

-- f, with x at k
abbrev pub but : {A : Type 0} → (ℕ → A) → ℕ → A → ℕ → A
but f k x p = cond (p == k) x (f p)

pub but-here : {A : Type 0} (f : ℕ → A) (k : ℕ) (x : A) → but f k x k ≡ x
but-here f k x = ap (λ b. cond b x (f k)) (eq-eqb k k refl)

but-by : {A : Type 0} (f : ℕ → A) (k : ℕ) (x : A) (p : ℕ) (b : Bool) → (p == k) ≡ b → p ≢ k → but f k x p ≡ f p
but-by f k x p b is apart = grind (arith, eqb-true)

pub but-else : {A : Type 0} (f : ℕ → A) (k : ℕ) (x : A) (p : ℕ) → p ≢ k → but f k x p ≡ f p
but-else f k x p apart = but-by f k x p (p == k) refl apart

-- where both say the same, it does not matter which
pub but-same : {A : Type 0} (f : ℕ → A) (k : ℕ) (x : A) (p : ℕ) → f p ≡ x → but f k x p ≡ x
but-same f k x p is = elim (p == k) as (λ b. cond b x (f p) ≡ x) [ true ↦ refl | false ↦ is ]
