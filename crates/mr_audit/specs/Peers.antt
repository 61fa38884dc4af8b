-- Which replicas gave what logs tell of.
use Rattle.std.specs.Prelude.{ℕ, ◌==◌, ◌&&◌, not, Bool, false, Option, Some, None, List}
use Rattle.std.specs.List.{list_any}
use Rattle.std.specs.Option.{option_map_or}
use Rattle.mr_replica.specs.State.{State}
use Rattle.mr_replica.specs.declared.event.Event.{Event}
use Rattle.mr_replica.specs.declared.event.Event.TheVariants.{Receive, Answer, Release}
use Rattle.mr_wire.specs.declared.frame.Frame.TheVariants as frame

-- who gave the frame that the event carries, if it carries one: the source of a record, who asks, or who gives the receipt
abbrev pub giver_of : Event → Option ℕ
giver_of (Receive (frame.Record sent)) = Some sent.header.source
giver_of (Answer question) = Some question.target
giver_of (Release receipt) = Some receipt.giver
giver_of event = None

-- the event carries a frame of the peer
abbrev pub gave : Event → (peer : ℕ) → Bool
gave event peer = option_map_or (λ giver. giver == peer) (giver_of event) false

module _ {K : Type 0} where
  -- some event of its log carries a frame of the peer
  abbrev pub gave_to : State K → (peer : ℕ) → Bool
  gave_to end peer = list_any (λ event. gave event peer) end.log

  abbrev pub gave_to_some : List (State K) → (peer : ℕ) → Bool
  gave_to_some ends peer = list_any (λ end. gave_to end peer) ends

  -- one of them has the id
  abbrev pub is_among : List (State K) → (id : ℕ) → Bool
  is_among ends id = list_any (λ end. end.id == id) ends

  -- it gave something to one of them, and isn't among them
  abbrev pub is_missing : List (State K) → (peer : ℕ) → Bool
  is_missing ends peer = not (is_among ends peer) && gave_to_some ends peer
