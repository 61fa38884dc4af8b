-- logs as the bytes of their events
use Rattle.std.specs.Prelude.{◌≡◌, ◌<◌, ◌≤◌, ◌++◌, ℕ, List, All, length, Result, Ok, Err}
use Rattle.std.specs.Global.{Vec}
use Rattle.std.specs.List.{flat_map}
use Rattle.mr_wire.specs.declared.decoding.TheConstants.{MAX_REST_BYTES}
use Rattle.mr_entry.specs.Decoding.{event_decoded}
use Rattle.mr_entry.specs.Grammar.{SpellsEvent}
use Rattle.mr_entry.specs.Spelling.{rest_bytes, event_bytes}
use Rattle.mr_entry.specs.declared.event.fault.EventFault.{EventFault}
use Rattle.mr_entry.specs.declared.event.fault.EventFault.TheVariants as event
use Rattle.mr_replica.specs.declared.event.Event.{Event}
use Rattle.mr_desk.specs.declared.fault.Fault.{Fault}
use Rattle.mr_desk.specs.declared.fault.Fault.TheVariants.{OutOfMemory, Event as OfEvent}

-- the event has bytes
abbrev pub HasBytes : Event → Type 0
HasBytes e = SpellsEvent e (event_bytes e)

-- the bytes are those of these events, one behind the other
pub record SpellsLog (events : List Event) (bytes : List ℕ) : Type 0 where
  pub each : All HasBytes events
  pub written : bytes ≡ flat_map event_bytes events

-- the bytes of some events, and behind them what begins none, by this fault
pub record StopsIn (bytes : List ℕ) (fault : EventFault) : Type 0 where
  pub events : List Event
  pub before : List ℕ
  pub rest : List ℕ
  pub spelled : SpellsLog events before
  pub all : bytes ≡ before ++ rest
  pub stops : event_decoded rest ≡ Err fault

-- The event's bytes, or that they are too many. Memory runs out only where they aren't.
abbrev pub GivesBytes : Event → Result (Vec ℕ) Fault → Type 0
GivesBytes e (Ok bytes) = SpellsEvent e bytes.items
GivesBytes e (Err OutOfMemory) = length (rest_bytes e) ≤ MAX_REST_BYTES
GivesBytes e (Err (OfEvent fault)) = (fault ≡ event.TooLong) × (MAX_REST_BYTES < length (rest_bytes e))
GivesBytes e (Err fault) = ⊥
