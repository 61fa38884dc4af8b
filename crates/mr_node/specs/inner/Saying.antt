-- what the gate lets pass
use Rattle.mr_replica.specs.declared.event.Event.{Event}
use Rattle.mr_replica.specs.declared.event.Event.TheVariants.{Receive}

-- a letter that is a Receive was let pass
abbrev pub IsLetPass : (has_let : Type 0) → Event → Type 0
IsLetPass has_let (Receive f) = has_let
IsLetPass has_let event = Unit {0}
