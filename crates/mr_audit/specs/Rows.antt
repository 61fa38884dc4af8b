-- worked rows: what the definitions give for small values
use Rattle.std.specs.Prelude.{◌≡◌, ℕ, true, false, [], ◌∷◌, Some, None, refl}
use Rattle.mr_version.specs.Name.{Name}
use Rattle.mr_replica.specs.State.{State, new_state}
use Rattle.mr_replica.specs.declared.event.Event.TheVariants.{Pull, Receive, Answer, Release, Next}
use Rattle.mr_wire.specs.inner.FrameParts.{descent_with}
use Rattle.mr_wire.specs.Frames.{Question, Sent}
use Rattle.mr_wire.specs.declared.frame.Body.TheVariants.{Start}
use Rattle.mr_wire.specs.declared.frame.Frame.TheVariants as frame
use Rattle.mr_wire.specs.declared.frame.Mode.TheVariants.{Full}
use Rattle.mr_wire.specs.declared.frame.Receipt.{Receipt}
use Rattle.mr_audit.specs.inner.Beginning.{event_count}
use Rattle.mr_audit.specs.Peers.{giver_of, is_missing}

abbrev first : Name
first = record { author = 0; counter = 1 }

-- replica 1 asks replica 0, which answers; and replica 2 gives replica 0 a receipt
abbrev ask : Question
ask = record { target = 1; session = 1; filter = []; fragments = [] }

abbrev start : Sent
start = record { header = record { source = 0; stream = 1; target = 1; session = 1; index = 0 }; body = Start Full }

abbrev receipt : Receipt
receipt = record { giver = 2; descent = descent_with first first [] }

-- ---- who gave what an event carries

pub who_asks : giver_of (Answer ask) ≡ Some 1
who_asks = refl

pub who_tells : giver_of (Receive (frame.Record start)) ≡ Some 0
who_tells = refl

pub who_vouches : giver_of (Release receipt) ≡ Some 2
who_vouches = refl

-- a request that is taken is no frame of a replica
pub none_gives_a_request : giver_of (Receive (frame.Ask ask)) ≡ None
none_gives_a_request = refl

pub none_gives_a_pull : giver_of Pull ≡ None
none_gives_a_pull = refl

-- ---- who is missing

abbrev answering : State ℕ
answering = record (new_state 0 [] 9 0) { log = Answer ask ∷ Next 1 ∷ Release receipt ∷ [] }

abbrev asking : State ℕ
asking = record (new_state 1 [] 9 0) { log = Pull ∷ Receive (frame.Record start) ∷ [] }

-- replica 0 alone lacks who asked it, and who gave it a receipt
pub lacks_who_asked : is_missing (answering ∷ []) 1 ≡ true
lacks_who_asked = refl

pub lacks_who_vouched : is_missing (answering ∷ asking ∷ []) 2 ≡ true
lacks_who_vouched = refl

-- one that is here isn't missing, nor is one that gave nothing
pub is_here : is_missing (answering ∷ asking ∷ []) 1 ≡ false
is_here = refl

pub gave_nothing : is_missing (answering ∷ asking ∷ []) 3 ≡ false
gave_nothing = refl

-- ---- how many events logs have

pub events : event_count (answering ∷ asking ∷ []) ≡ 5
events = refl

pub no_events : event_count {K = ℕ} [] ≡ 0
no_events = refl
