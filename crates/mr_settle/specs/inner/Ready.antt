-- Which end can go on, and how.
use Rattle.std.specs.Prelude.{◌≡◌, ◌≤◌, ◌<◌, ◌+◌, ℕ, Option, Some, None, List}
use Rattle.std.specs.List.{slice_get}
use Rattle.mr_forms.specs.Known.{Form}
use Rattle.mr_replica.specs.State.{State}
use Rattle.mr_replica.specs.Replay.{IsItsLog}
use Rattle.mr_replica.specs.declared.event.Event.{Event as ReplicaEvent}
use Rattle.mr_settle.specs.inner.Named.{GivenNumbers, Names}
use Rattle.mr_settle.specs.declared.ready.Ready.{Ready}

module _ {K : Type 0} where
  -- the next event of the end at this place, where so many of its log are done
  pub record IsNext (ends : List (State K)) (done : List ℕ) (place : ℕ) (end : State K) (position : ℕ) (event : ReplicaEvent) : Type 0 where
    pub end_is : slice_get ends place ≡ Some end
    pub done_is : slice_get done place ≡ Some position
    pub event_is : slice_get end.log position ≡ Some event

  -- the end at this place cannot go on
  abbrev pub Rests : List (State K) → GivenNumbers → List ℕ → (place : ℕ) → Type 0
  Rests ends given done place = (end : State K) (position : ℕ) (event : ReplicaEvent) → IsNext ends done place end position event → Names given event None

module _ {K : Type 0} (form : Form K) where
  -- the end at that place, which is its log replayed, goes on by that event
  pub record IsReady (ends : List (State K)) (given : GivenNumbers) (done : List ℕ) (ready : Ready) : Type 0 where
    pub end : State K
    pub position : ℕ
    pub event : ReplicaEvent
    pub next : IsNext ends done ready.place end position event
    pub after : ready.after ≡ position + 1
    pub of_end : ready.event.replica ≡ end.id
    pub names : Names given event (Some ready.event.act)
    pub its_log : IsItsLog form end

  -- what is found at a place
  abbrev pub FindsAt : List (State K) → GivenNumbers → List ℕ → (place : ℕ) → Option Ready → Type 0
  FindsAt ends given done place (Some ready) = IsReady ends given done ready
  FindsAt ends given done place None = Rests ends given done place

  -- what is found from a place to another
  abbrev pub IsFirstReady : List (State K) → GivenNumbers → List ℕ → (from to : ℕ) → Option Ready → Type 0
  IsFirstReady ends given done from to (Some ready) = IsReady ends given done ready
  IsFirstReady ends given done from to None = (place : ℕ) → from ≤ place → place < to → Rests ends given done place

  -- what is found anywhere
  abbrev pub FindsReady : List (State K) → GivenNumbers → List ℕ → Option Ready → Type 0
  FindsReady ends given done (Some ready) = IsReady ends given done ready
  FindsReady ends given done None = (place : ℕ) → Rests ends given done place
