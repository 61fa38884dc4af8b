-- one part of a command after another, where the first one is at fault
use Rattle.std.proofs.Common.{◌≡◌, ℕ, List, Result, Err}
use Rattle.mr_script.proofs.Names.{Doing, Follows, Global, LineFault, String, WorldView, err_from_is_err_and, text_of}
use Rattle.std.specs.Result.{IsErrAnd}
use Rattle.mr_script.specs.Doing.Follows.{ends}

module _ {K X : Type 0} {First : Doing K X} where
  -- the exit of a `?`, whose fault is passed on
  pub ends_at : {Y : Type 0} {Next : X → Doing K Y} (w w' : WorldView K) (fault : LineFault) (result : Result Y LineFault) → IsErrAnd result (λ e. e ≡ fault) → First w (Err fault) w' → Follows First Next w result w'
  ends_at w w' fault result exit at_fault = let p = err_from_is_err_and result exit in rw (p.1, p.2) (ends at_fault)

  -- the same where a text would come
  pub ends_text_at : {Next : X → Doing K (List ℕ)} (w w' : WorldView K) (fault : LineFault) (result : Result (String Global) LineFault) → IsErrAnd result (λ e. e ≡ fault) → First w (Err fault) w' → Follows First Next w (text_of result) w'
  ends_text_at w w' fault result exit at_fault = let p = err_from_is_err_and result exit in rw (p.1, p.2) (ends at_fault)
