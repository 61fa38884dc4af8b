use Rattle.std.specs.Vec.Iter.{into_iter_items}
use Rattle.mr_replica.proofs.Replaying.{EventsSoFar}
use Rattle.mr_replica.proofs.replica.Replica.take_each.Given as goal

abbrev pub invariant-loop-event : goal.invariant-loop-event
invariant-loop-event g l = EventsSoFar g.K.Knowledge.form l.fn.self l.fn.events.items l.yielded (into_iter_items l.event-iterator) l.place l.self
