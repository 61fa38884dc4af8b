-- What a step says of its answer: a reply stands for a change, with nothing that refuses the event, and a refusal changes nothing.
use Rattle.std.proofs.Common.{◌≡◌, Option, Some, None, Result, Ok, Err, arith}
use Rattle.mr_replica.proofs.Names.{Answers, Changes, Event, Form, Refusal, Reply, State, Steps, first_refusal}

module _ {K : Type 0} (form : Form K) where
  -- a step, by what refuses the event first
  abbrev pub GoesOn : State K → Event → Option Refusal → Result Reply Refusal → State K → Type 0
  GoesOn s event first answer new = elim first [
    | Some e ↦ (answer ≡ Err e) × (new ≡ s)
    | None ↦ Answers form s event answer new
  ]

  pub step_replied : (s : State K) (event : Event) (told : Reply) (new : State K) → Steps form s event (Ok told) new → (first_refusal s event ≡ None) × Changes form s event told new
  step_replied s event told new h = grind arith

  pub step_changes : (s : State K) (event : Event) (told : Reply) (new : State K) → Steps form s event (Ok told) new → Changes form s event told new
  step_changes s event told new h = (step_replied s event told new h).1

  pub step_refused : (s : State K) (event : Event) (e : Refusal) (new : State K) → Steps form s event (Err e) new → new ≡ s
  step_refused s event e new h = go (first_refusal s event) h
    where
      go : (first : Option Refusal) → GoesOn s event first (Err e) new → new ≡ s
      go None h = h.1
      go (Some f) h = h.1
