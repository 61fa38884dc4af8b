-- what is no limit can be decided
use Rattle.std.proofs.Common.{ℕ, arith, inl, inr}
use Rattle.std.proofs.lemmas.Bool.{cases_lt}
use Rattle.mr_replica.specs.declared.replica.TheConstants.{MAX_EVENTS}
use Rattle.mr_desk.specs.Opening.{IsLimit}

-- what is not no limit is one
pub limit-in : (limit : ℕ) → (¬ IsLimit limit → ⊥) → IsLimit limit
limit-in limit isnt = elim (cases_lt limit 1) [
  | inl low ↦ absurd (isnt (λ in_range. omega (arith, low, in_range.0)))
  | inr least ↦ elim (cases_lt MAX_EVENTS limit) [
    | inl high ↦ absurd (isnt (λ in_range. omega (arith, high, in_range.1)))
    | inr most ↦ (least, most)
  ]
]
