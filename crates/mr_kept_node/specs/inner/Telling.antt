-- What of a machine's feed may be told.
use Rattle.std.proofs.Common.{◌≡◌, ⊎_elim, zero, suc, ℕ, List, [], ◌∷◌, ◌++◌, take, drop, Option, Some, None, Result, Ok, Err, refl, sym, ap, ◌∙◌, append_assoc, append-nil}
use Rattle.std.proofs.lemmas.List.{take-append-drop}
use Rattle.std.proofs.Math.Seq.{take-length}
use Rattle.mr_forms.specs.Known.{Form}
use Rattle.mr_feed.specs.declared.entry.Entry.{Entry}
use Rattle.mr_journal.specs.declared.device.Device.{Ghosts as DeviceOf}
use Rattle.mr_replica.specs.State.{State}
use Rattle.mr_replica.specs.declared.event.Event.{Event}
use Rattle.mr_replica.specs.declared.event.Reply.{Reply}
use Rattle.mr_replica.specs.declared.refusal.Refusal.{Refusal}
use Rattle.mr_replica.proofs.Replaying.{refused_same, step_feed}
use Rattle.mr_kept.specs.Kept.{replica_of}
use Rattle.mr_kept.specs.declared.fault.KeptFault.{KeptFault}
use Rattle.mr_kept.specs.declared.fault.KeptFault.TheVariants as kept
use Rattle.mr_kept.specs.declared.journaled.Journaled.{Journaled}
use Rattle.mr_kept_node.specs.Letter.{Turned}
use Rattle.mr_kept_node.specs.Machine.{Kept, Declined, Stopped, Goes, TakesBy, Takes, told_of}
use Rattle.mr_kept_node.specs.declared.machine.KeptMachine.{KeptMachine}

-- the first of a list that has grown are the first of it, and maybe more
first_more : {A : Type 0} (n : ℕ) (xs ys : List A) → (more : List A) × (take n (xs ++ ys) ≡ take n xs ++ more)
first_more zero xs ys = ([], refl)
first_more (suc n) [] ys = (take (suc n) ys, refl)
first_more (suc n) (x ∷ xs) ys = let rest = first_more n xs ys in (rest.0, ap (λ (l : List _). x ∷ l) rest.1)

module _ {K D V : Type 0} (form : Form K) where
  -- a letter that was turned away has changed nothing
  pub turned_same : (old new : Journaled K D V) (letter : Event) (fault : KeptFault) → Turned form old letter fault new → replica_of new ≡ replica_of old
  turned_same old new letter kept.OutOfMemory h = h.answered
  turned_same old new letter (kept.Refused e) h = refused_same form (replica_of old) letter e (replica_of new) h.answered.1
  turned_same old new letter kept.Failed h = h.answered.1
  turned_same old new letter kept.TooLarge h = h.answered.1
  turned_same old new letter kept.Unsettled h = absurd h.answered

  -- the same may be told of the same replica
  told_same : (old new : KeptMachine K D V) → replica_of new.journaled ≡ replica_of old.journaled → new.told ≡ old.told → told_of new ≡ told_of old
  told_same old new replica told = ap (λ (s : State K). take new.told s.feed) replica ∙ ap (λ (n : ℕ). take n (replica_of old.journaled).feed) told

module _ {K D V : Type 0} (form : Form K) (device : DeviceOf D) where
  kept_grows : (s : KeptMachine K D V) (letter : Event) (reply : Reply) (t : KeptMachine K D V) → Kept form device s letter reply t → (more : List Entry) × (told_of t ≡ told_of s ++ more)
  kept_grows s letter reply t h =
      let before : List Entry = (replica_of s.journaled).feed in
      let after : List Entry = (replica_of t.journaled).feed in
      let grown = step_feed form (replica_of s.journaled) (replica_of t.journaled) letter (Ok reply) h.steps in
      let all : told_of t ≡ after = ap (λ (n : ℕ). take n after) h.told ∙ take-length after in (
        drop s.told before ++ grown.0,
        all ∙ grown.1 ∙ ap (λ (l : List Entry). l ++ grown.0) (sym (take-append-drop s.told before)) ∙ append_assoc (take s.told before) (drop s.told before) grown.0,
      )

  declined_grows : (s : KeptMachine K D V) (letter : Event) (e : Refusal) (t : KeptMachine K D V) → Declined form device s letter e t → (more : List Entry) × (told_of t ≡ told_of s ++ more)
  declined_grows s letter e t h =
      ([], told_same form s t (turned_same form s.journaled t.journaled letter h.fault h.turned) h.told ∙ sym (append-nil (told_of s)))

  stopped_grows : (s : KeptMachine K D V) (letter : Event) (t : KeptMachine K D V) → Stopped form device s letter t → (more : List Entry) × (told_of t ≡ told_of s ++ more)
  stopped_grows s letter t h =
      let before : List Entry = (replica_of s.journaled).feed in
      let grown = step_feed form (replica_of s.journaled) (replica_of h.asked_of) letter (Ok h.reply) h.asked.steps in
      let first = first_more s.told before grown.0 in (
        first.0,
        ap (λ (z : State K). take t.told z.feed) h.replica ∙ ap (λ (n : ℕ). take n (replica_of h.asked_of).feed) h.told ∙ ap (take s.told) grown.1 ∙ first.1,
      )

  goes_grows : (s : KeptMachine K D V) (letter : Event) (answer : Result Reply Refusal) (t : KeptMachine K D V) → Goes form device s letter answer t → (more : List Entry) × (told_of t ≡ told_of s ++ more)
  goes_grows s letter (Ok reply) t h = kept_grows s letter reply t h
  goes_grows s letter (Err e) t h = ⊎_elim (λ same. declined_grows s letter e t same) (λ stop. stopped_grows s letter t stop.1) h

  takes_grows : (fault : Option KeptFault) (s : KeptMachine K D V) (letter : Event) (answer : Result Reply Refusal) (t : KeptMachine K D V) → TakesBy form device fault s letter answer t → (more : List Entry) × (told_of t ≡ told_of s ++ more)
  takes_grows None s letter answer t h = goes_grows s letter answer t h
  takes_grows (Some fault) s letter answer t h = ([], ap told_of h.1 ∙ sym (append-nil (told_of s)))

  -- a letter only adds to what was told
  pub feed_grows : (s : KeptMachine K D V) (letter : Event) (answer : Result Reply Refusal) (t : KeptMachine K D V) → Takes form device s letter answer t → (more : List Entry) × (told_of t ≡ told_of s ++ more)
  feed_grows s letter answer t h = takes_grows s.fault s letter answer t h
