-- an event of a replica whose host writes
use Rattle.std.specs.Prelude.{Result, Ok, Err}
use Rattle.mr_itemset.specs.Normal.{Normal}
use Rattle.mr_kept.specs.declared.fault.KeptFault.{KeptFault}
use Rattle.mr_hosted.specs.declared.hosted.Hosted.{Hosted}
use Rattle.mr_replica.specs.declared.event.Event.{Event}
use Rattle.mr_desk.specs.declared.reply.Told.{Told}
use Rattle.mr_desk.specs.Kept.{Stays, Goes, Refuses}

module _ {V : Type 0} where
  -- an event is taken, or why it isn't; then all stays
  abbrev pub KeptTells : Hosted Normal V → Event → Result Told KeptFault → Hosted Normal V → Type 0
  KeptTells old event (Ok t) new = Goes old event t new
  KeptTells old event (Err e) new = Refuses old event e × Stays old new
