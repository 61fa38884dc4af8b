-- What is found where no end can go on.
use Rattle.std.specs.Prelude.{◌≡◌, ◌≤◌, ◌<◌, ◌+◌, ℕ, nat_lt, if◌then◌else◌, Option, Some, None, List, length}
use Rattle.std.specs.List.{slice_get}
use Rattle.mr_forms.specs.Known.{Form}
use Rattle.mr_replica.specs.State.{State}
use Rattle.mr_replica.specs.Replay.{IsItsLog}
use Rattle.mr_world.specs.Kept.{WorldView, replica_at}
use Rattle.mr_replica.specs.One.{AreOneIfAlike}

module _ {K : Type 0} where
  -- of the end at this place, so many of the log are done, and not all
  pub record IsLeftAt (ends : List (State K)) (done : List ℕ) (place : ℕ) (end : State K) (position : ℕ) : Type 0 where
    pub end_is : slice_get ends place ≡ Some end
    pub done_is : slice_get done place ≡ Some position
    pub left : position < length end.log

  -- this end has the id, and its next event the number
  pub record HasLeft (ends : List (State K)) (done : List ℕ) (replica event : ℕ) : Type 0 where
    pub place : ℕ
    pub end : State K
    pub position : ℕ
    pub is : IsLeftAt ends done place end position
    pub id : end.id ≡ replica
    pub next : event ≡ position + 1

  -- the ends at these places, up to one, have an id no lower, where they have events left
  abbrev pub AreNoLower : List (State K) → List ℕ → (up_to : ℕ) → (replica : ℕ) → Type 0
  AreNoLower ends done up_to replica = (place : ℕ) (end : State K) (position : ℕ) → place < up_to → IsLeftAt ends done place end position → replica ≤ end.id

  -- up to a place, the lowest with events left, and the number of its next one; or none has any left
  abbrev pub FindsLeftTo : List (State K) → List ℕ → (up_to : ℕ) → Option (ℕ × ℕ) → Type 0
  FindsLeftTo ends done up_to (Some found) = HasLeft ends done found.0 found.1 × AreNoLower ends done up_to found.0
  FindsLeftTo ends done up_to None = (place : ℕ) (end : State K) (position : ℕ) → place < up_to → ¬ IsLeftAt ends done place end position

  -- whether one place has events left, and the number of its next one
  abbrev pub FindsLeftAt : List (State K) → List ℕ → (place : ℕ) → Option (ℕ × ℕ) → Type 0
  FindsLeftAt ends done place (Some found) = (end : State K) × (position : ℕ) × IsLeftAt ends done place end position × (end.id ≡ found.0) × (found.1 ≡ position + 1)
  FindsLeftAt ends done place None = (end : State K) (position : ℕ) → ¬ IsLeftAt ends done place end position

  -- of all places the lowest with events left, and the number of its next one; or none has any left
  abbrev pub FindsLeft : List (State K) → List ℕ → Option (ℕ × ℕ) → Type 0
  FindsLeft ends done found = FindsLeftTo ends done (length ends) found

-- the one of the lower replica, of two
abbrev pub lower_of : Option (ℕ × ℕ) → Option (ℕ × ℕ) → Option (ℕ × ℕ)
lower_of (Some x) (Some y) = Some (if nat_lt y.0 x.0 then y else x)
lower_of (Some x) None = Some x
lower_of None b = b

module _ {K : Type 0} (form : Form K) where
  -- it is its log replayed, and is its replica in the world, if the two are alike
  abbrev pub IsOneInWorld : WorldView K → State K → Type 0
  IsOneInWorld w end = IsItsLog form end × ((s : State K) → replica_at w.members end.id ≡ Some s → AreOneIfAlike form s end)
