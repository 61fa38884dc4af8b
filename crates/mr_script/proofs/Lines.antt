use Rattle.std.proofs.Common.{◌≡◌, ◌∙◌, ℕ, List, Result, Ok, Err, IfOk, string_bytes}
use Rattle.mr_script.proofs.Names.{Global, String}

-- a text that is made, written another way
pub IfOk-same_text : {E : Type 0} (r : Result (String Global) E) (x y : List ℕ) → IfOk r (λ s. string_bytes s ≡ x) → x ≡ y → IfOk r (λ s. string_bytes s ≡ y)
IfOk-same_text (Ok s) x y made same = made ∙ same
IfOk-same_text (Err e) x y made same = tt
