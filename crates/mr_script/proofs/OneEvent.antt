-- one event of a world and its answer
use Rattle.std.proofs.Common.{◌≡◌, ◌+◌, ◌-◌, ℕ, List, [], ◌∷◌, ◌++◌, length, Option, Some, None, IsSome, IsSomeAnd, Result, inl, inr, refl, sym, arith, length-append}
use Rattle.mr_script.proofs.Names.{Answer, Event, Form, Happens, IsStopFault, LineFault, Mail, Prevents, WorldView, answer_text, fault_of_stop}
use Rattle.mr_script.proofs.Names.{get_or-append_seam, goes_on, happens_told, newest, sizes_of, slice_get, slice_get_read, tells}
use Rattle.mr_world.specs.Run.{answered}
use Rattle.mr_world.specs.declared.fault.WorldFault.{WorldFault}
use Rattle.mr_world.specs.declared.fault.WorldFault.TheVariants as stops

last_of_more : {X : Type 0} (xs : List X) (x : X) → slice_get (xs ++ x ∷ []) (length (xs ++ x ∷ []) - 1) ≡ Some x
last_of_more xs x =
    let count : length (xs ++ x ∷ []) ≡ length xs + 1 = length-append xs (x ∷ []) in
    let place : length (xs ++ x ∷ []) - 1 ≡ length xs = omega (arith, count) in
    rw place (slice_get_read (xs ++ x ∷ []) (length xs + 1) (length xs) x (sym count) (omega arith) (sym (get_or-append_seam xs x [] x)))

module _ {K : Type 0} (form : Form K) where
  -- the newest answer is that of the event that happened
  pub newest_is : (w w' : WorldView K) (e : Event Mail) (answer : Answer) → Happens form w e answer w' → newest w' ≡ Some answer
  newest_is w w' e answer h = rw (h.notes, last_of_more w.answers (answered e answer)) refl

  -- an event that was answered is noted
  pub met_noted : (w w' : WorldView K) (e : Event Mail) → (answer : Answer) × Happens form w e answer w' → IsSomeAnd (newest w') (λ answer. Happens form w e answer w')
  met_noted w w' e h = rw (newest_is w w' e h.0 h.1) h.1

  -- and so says the line's fault
  pub prevented : (w : WorldView K) (e : Event Mail) (fault : WorldFault) → IsStopFault w e fault → Prevents w e (fault_of_stop fault)
  prevented w e stops.OutOfMemory h = inl refl
  prevented w e stops.NoSuchReplica h = inr (rw h refl)
  prevented w e stops.NoSuchFrame h = inr (rw h refl)

-- there is an answer, and what is said of it is said of the newest
pub noted_there : (found : Option Answer) (Says : Answer → Type 0) → IsSomeAnd found Says → IsSome found
noted_there None Says h = absurd h
noted_there (Some answer) Says h = refl

pub noted_at : (found : Option Answer) (answer : Answer) (Says : Answer → Type 0) → found ≡ Some answer → IsSomeAnd found Says → Says answer
noted_at found answer Says is h = rw is at h

-- the event happened, and the line of its answer is told, or there is no memory for it
pub happened_told : {K : Type 0} (form : Form K) (w w' : WorldView K) (e : Event Mail) (answer : Answer) (result : Result (List ℕ) LineFault) → newest w' ≡ Some answer → IsSomeAnd (newest w') (λ a. Happens form w e a w') → tells (answer_text (sizes_of w') answer) result → happens_told form e w result w'
happened_told form w w' e answer result is happened told =
    goes_on {x = answer} {mid = w'} (noted_at (newest w') answer (λ a. Happens form w e a w') is happened) (told, refl)
