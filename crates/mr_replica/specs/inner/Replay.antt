-- where a replay stops
use Rattle.std.specs.Prelude.{List}
use Rattle.mr_forms.specs.Known.{Form}
use Rattle.mr_replica.specs.State.{State}
use Rattle.mr_replica.specs.declared.event.Event.{Event}
use Rattle.mr_replica.specs.declared.replica.replay.ReplayFault.{ReplayFault}
use Rattle.mr_replica.specs.declared.replica.replay.ReplayFault.TheVariants.{BadLimit, Refused}
use Rattle.mr_replica.specs.Replay.{StopsAt}

module _ {K : Type 0} (form : Form K) where
  -- the fault tells where the replica stops, and why
  abbrev pub IsStop : State K → List Event → ReplayFault → Type 0
  IsStop s events BadLimit = ⊥
  IsStop s events (Refused place refusal) = StopsAt form s events place refusal
