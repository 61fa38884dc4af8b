-- a condition's kind ends at the first colon
use Rattle.std.proofs.Common.{◌≡◌, ◌≢◌, ℕ, ◌<◌, false, eqb, List, length, get_or, Option, arith}
use Rattle.mr_filter.proofs.Names.{All-from_recursion, IsSomeAnd, LacksColon, MatchOption, eqb-false}

pub no_colon : (bytes : List ℕ) → LacksColon bytes → (i : ℕ) → i < length bytes → get_or bytes i 0 ≢ 58
no_colon bytes lacks i below = eqb-false (get_or bytes i 0) 58 (All-from_recursion (λ b. eqb b 58 ≡ false) bytes lacks i 0 below)

pub IsSomeAnd-from : {X : Type 0} (found : Option X) (P : X → Type 0) → MatchOption found ⊥ P → IsSomeAnd found P
IsSomeAnd-from found P h = grind arith
