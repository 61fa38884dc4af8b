-- a log as it is read
use Rattle.std.specs.Prelude.{ℕ, List, Result, Ok, Err}
use Rattle.std.specs.Global.{Vec}
use Rattle.mr_replica.specs.declared.event.Event.{Event}
use Rattle.mr_desk.specs.declared.fault.Fault.{Fault}
use Rattle.mr_desk.specs.declared.fault.Fault.TheVariants.{OutOfMemory, Event as OfEvent}
use Rattle.mr_desk.specs.Log.{SpellsLog, StopsIn}

-- the events of the bytes, or the fault of the first that is none; memory may run out before it is known
abbrev pub ReadsLog : List ℕ → Result (Vec Event) Fault → Type 0
ReadsLog bytes (Ok events) = SpellsLog events.items bytes
ReadsLog bytes (Err OutOfMemory) = Unit {0}
ReadsLog bytes (Err (OfEvent fault)) = StopsIn bytes fault
ReadsLog bytes (Err fault) = ⊥
