-- The frames that events carry, and how far logs have come.
use Rattle.std.specs.Prelude.{◌≡◌, ℕ, Option, Some, None, Result, List, map, IfOk}
use Rattle.std.specs.List.{slice_get, AllZip}
use Rattle.std.specs.Option.{option_map}
use Rattle.std.specs.Global.{Vec}
use Rattle.mr_replica.specs.State.{State}
use Rattle.mr_replica.specs.declared.event.Event.{Event}
use Rattle.mr_replica.specs.declared.event.Event.TheVariants.{Receive, Answer, Release}
use Rattle.mr_wire.specs.Encoding.{Encodes}
use Rattle.mr_wire.specs.Grammar.{Spells}
use Rattle.mr_wire.specs.declared.fault.WireFault.{WireFault}
use Rattle.mr_wire.specs.declared.frame.Frame.{Frame}
use Rattle.mr_wire.specs.declared.frame.Frame.TheVariants as frame
use Rattle.mr_settle.specs.declared.progress.Progress.{Progress}

-- the frame of a pool that the event carries, if it carries one
abbrev pub carried : Event → Option Frame
carried (Receive (frame.Record sent)) = Some (frame.Record sent)
carried (Answer question) = Some (frame.Ask question)
carried (Release receipt) = Some (frame.Receipt receipt)
carried event = None

-- these are the bytes of the frame; it has none where no bytes spell it
abbrev pub HasBytes : Option Frame → Option (List ℕ) → Type 0
HasBytes None bytes = bytes ≡ None
HasBytes (Some f) (Some bytes) = Spells 2 f bytes
HasBytes (Some f) None = (bytes : List ℕ) → ¬ Spells 2 f bytes

-- the frame's encoding, if there is a frame
abbrev pub EncodesCarried : Option Frame → Option (Result (Vec ℕ) WireFault) → Type 0
EncodesCarried None None = Unit {0}
EncodesCarried (Some f) (Some encoded) = Encodes f encoded × IfOk encoded (λ v. Spells 2 f v.items)
EncodesCarried f encoded = ⊥

-- the bytes that are kept
abbrev pub bytes_of : Progress → Option (List ℕ)
bytes_of p = option_map (λ v. v.items) p.frame

-- how many events of each log have happened
abbrev pub done_of : List Progress → List ℕ
done_of progress = map (λ p. p.done) progress

module _ {K : Type 0} where
  -- what is kept are the bytes of the next event's frame
  abbrev pub IsUpToDate : State K → Progress → Type 0
  IsUpToDate end p = (event : Event) → slice_get end.log p.done ≡ Some event → HasBytes (carried event) (bytes_of p)

  -- so many events have happened, and what is kept are the bytes of the next one's frame
  abbrev pub IsProgressAt : State K → (done : ℕ) → Progress → Type 0
  IsProgressAt end done p = (p.done ≡ done) × IsUpToDate end p

  -- nothing has happened
  abbrev pub AreAtStart : List (State K) → List Progress → Type 0
  AreAtStart ends progress = AllZip (λ end p. IsProgressAt end 0 p) ends progress
