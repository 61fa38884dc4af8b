-- Replay: a fresh replica takes events one after the other, as a log has them.
use Rattle.std.specs.Prelude.{◌≡◌, ◌++◌, ℕ, false, Ok, Err, List, [], ◌∷◌, length}
use Rattle.mr_filter.specs.Filter.{ClauseParts}
use Rattle.mr_forms.specs.Known.{Form, AreSame}
use Rattle.mr_replica.specs.State.{State, new_state}
use Rattle.mr_replica.specs.Step.{Steps}
use Rattle.mr_replica.specs.declared.event.Event.{Event}
use Rattle.mr_replica.specs.declared.event.Reply.{Reply}
use Rattle.mr_replica.specs.declared.refusal.Refusal.{Refusal}
use Rattle.mr_replica.specs.declared.refusal.Refusal.TheVariants.{OutOfMemory}
use Rattle.mr_replica.specs.declared.replica.replay.ReplayFault.{ReplayFault}
use Rattle.mr_replica.specs.declared.replica.replay.ReplayFault.TheVariants.{BadLimit, Refused}

-- the number by which a host knows the fault, of an event by its refusal
abbrev pub replay_fault_number : ReplayFault → ℕ
replay_fault_number BadLimit = 1
replay_fault_number (Refused place OutOfMemory) = 0
replay_fault_number (Refused place refusal) = 2

-- where an event was refused, it was for want of memory
abbrev pub IsForMemory : ReplayFault → Type 0
IsForMemory BadLimit = Unit {0}
IsForMemory (Refused place refusal) = refusal ≡ OutOfMemory

module _ {K : Type 0} (form : Form K) where
  -- The replica admits the event, and goes on to new.
  abbrev pub Admits : State K → Event → State K → Type 0
  Admits s event new = (reply : Reply) × Steps form s event (Ok reply) new

  -- The replica admits these events one after the other, and goes on to new.
  abbrev pub AdmitsAll : State K → List Event → State K → Type 0
  AdmitsAll s [] new = new ≡ s
  AdmitsAll s (event ∷ events) new = (mid : State K) × Admits s event mid × AdmitsAll mid events new

  -- The replica admits the events before this place, and refuses the one there.
  pub record StopsAt (s : State K) (events : List Event) (place : ℕ) (refusal : Refusal) : Type 0 where
    pub before : List Event
    pub event : Event
    pub left : List Event
    pub all : events ≡ before ++ event ∷ left
    pub is_place : length before ≡ place
    pub reached : State K
    pub admits : AdmitsAll s before reached
    pub refuses : Steps form reached event (Err refusal) reached

  module _ (id : ℕ) (filter : List ClauseParts) (event_limit : ℕ) where
    -- a replica to which nothing has happened, and which knows nothing
    pub record IsFresh (s : State K) : Type 0 where
      pub is_empty : s ≡ new_state id filter event_limit s.knowledge
      pub knows_nothing : AreSame (form.known s.knowledge) (λ _ _. false)

    -- A fresh replica that admits these events one after the other is then this one.
    pub record Replays (events : List Event) (s : State K) : Type 0 where
      pub fresh : State K
      pub is_fresh : IsFresh fresh
      pub admits : AdmitsAll fresh events s

    -- A fresh replica admits the events before this place, and refuses the one there.
    pub record RefusesReplay (events : List Event) (place : ℕ) (refusal : Refusal) : Type 0 where
      pub fresh : State K
      pub is_fresh : IsFresh fresh
      pub stops : StopsAt fresh events place refusal

    -- the fault tells the first event that a fresh replica refuses, where there is a fresh one
    abbrev pub IsReplayFault : List Event → ReplayFault → Type 0
    IsReplayFault events BadLimit = Unit {0}
    IsReplayFault events (Refused place refusal) = RefusesReplay events place refusal

  -- A replica is its log replayed: a fresh one with its id, its filter and its limit that admits the events of its log is the same.
  abbrev pub IsItsLog : State K → Type 0
  IsItsLog s = Replays s.id s.filter s.event_limit s.log s
