-- an event whose answer nothing is read off, and a sync that is cut by such ones
use Rattle.std.proofs.Common.{◌≢◌, ℕ, Option, Some, None, IsSomeAnd, Result, refl}
use Rattle.mr_script.proofs.Names.{Answer, Cut, Doing, Event, Finished, Follows, Form, Happens, LineFault, Mail, Refused, Sync, SyncCounts, SyncEnd}
use Rattle.mr_script.proofs.Names.{WorldView, closes, cuts_in, cuts_out, goes_on, happens, looking, newest, ◌andthen◌}
use Rattle.mr_command.specs.Reading.{gives}
use Rattle.mr_script.specs.declared.sync.Outcome.{Outcome}

noted_answer : (found : Option Answer) (Says : Answer → Type 0) → IsSomeAnd found Says → (answer : Answer) × Says answer
noted_answer None Says h = absurd h
noted_answer (Some answer) Says h = (answer, h)

module _ {K : Type 0} (form : Form K) where
  -- an event that happened, whatever was answered, and what goes on after it
  pub event_then : {X : Type 0} {Next : Doing K X} {e : Event Mail} {w w' : WorldView K} {result : Result X LineFault} →
      (mid : WorldView K) → IsSomeAnd (newest mid) (λ answer. Happens form w e answer mid) → Next mid result w' → Follows (happens form e) (λ _. Next) w result w'
  event_then {e} {w} mid h next = let a = noted_answer (newest mid) (λ (answer : Answer). Happens form w e answer mid) h in goes_on {x = a.0} {mid = mid} a.1 next

  -- a sync that didn't finish is closed by two cuts
  pub closes_cut : (sync : Sync) (session stream : ℕ) (counts : SyncCounts) (end : SyncEnd) (w : WorldView K) (result : Result Outcome LineFault) (w' : WorldView K) → end ≢ Finished →
      (cuts_in form sync session andthen λ _. cuts_out form sync stream andthen λ _. looking (λ _. gives (record { counts = counts; end = end }))) w result w' →
      closes form sync session stream counts end w result w'
  closes_cut sync session stream counts Finished w result w' other h = absurd (other refl)
  closes_cut sync session stream counts Cut w result w' other h = h
  closes_cut sync session stream counts (Refused refusal) w result w' other h = h
