-- readings, step by step
use Rattle.std.proofs.Common.{◌≡◌, ℕ, Bool, true, false, List, Result, Ok, Err, MatchResult, Bor}
use Rattle.mr_command.proofs.Names.{Both, IsErrAnd, IsOkAnd, LineFault, Reading, Scene, choose, ends, goes_on, reads_two}
use Rattle.std.proofs.lemmas.Result.{err_from_is_err_and}

-- what is chosen where the test holds, and where it does not
pub choose-true : {X : Type 0} (b : Bool) (first second : Reading X) (result : Result X LineFault) → b ≡ true → first result → choose b first second result
choose-true b first second result is h = rw is h

pub choose-false : {X : Type 0} (b : Bool) (first second : Reading X) (result : Result X LineFault) → b ≡ false → second result → choose b first second result
choose-false b first second result is h = rw is h

-- the exit of a `?`, whose fault is passed on
pub ends_at : {X Y : Type 0} {First : Reading X} {Next : X → Reading Y} (fault : LineFault) (result : Result Y LineFault) → IsErrAnd result (λ e. e ≡ fault) → First (Err fault) → Both First Next result
ends_at fault result exit at_fault = let p = err_from_is_err_and result exit in rw (p.1, p.2) (ends at_fault)

-- what `map` makes of what was read
pub mapped : {X Y : Type 0} {Reads : Reading X} {Gives : X → Reading Y} (Made : X → Y → Type 0) (r : Result X LineFault) (s : Result Y LineFault) → MatchResult r (λ x. IsOkAnd s (Made x)) (λ e. s ≡ Err e) → ((x : X) (y : Y) → Made x y → Gives x (Ok y)) → Reads r → Both Reads Gives s
mapped Made (Ok x) (Ok y) made gives reads = goes_on reads (gives x y made)
mapped Made (Ok x) (Err e) made gives reads = absurd made
mapped Made (Err e) s same gives reads = rw same (ends reads)

-- two words, of which the second was read by a call: how it was read follows from what the call tells
pub two_read : {X : Type 0} (scene : Scene) (Tells : Bor (List ℕ) → Reading X) (Reads : List ℕ → Reading X) (args : List (List ℕ)) (r : Result (ℕ × X) LineFault) → reads_two scene (λ word r. (w : Bor (List ℕ)) × Tells w r × (w.now ≡ word)) args r → ((word : Bor (List ℕ)) (r : Result X LineFault) → Tells word r → Reads word.now r) → reads_two scene Reads args r
two_read scene Tells Reads args r (goes_on took (goes_on found (goes_on {x = x} (word, tells, same) gave))) read = goes_on took (goes_on found (goes_on (rw same at (read word (Ok x) tells)) gave))
two_read scene Tells Reads args r (goes_on took (goes_on found (ends {fault = fault} (word, tells, same)))) read = goes_on took (goes_on found (ends (rw same at (read word (Err fault) tells))))
two_read scene Tells Reads args r (goes_on took (ends found)) read = goes_on took (ends found)
two_read scene Tells Reads args r (ends took) read = ends took
