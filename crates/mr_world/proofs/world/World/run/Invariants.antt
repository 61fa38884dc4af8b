use Rattle.std.specs.Vec.Iter.{into_iter_items}
use Rattle.mr_world.proofs.Running.Loops.{EventsSoFar}
use Rattle.mr_world.proofs.world.World.run.Given as goal

abbrev pub invariant-loop-event : goal.invariant-loop-event
invariant-loop-event g l = EventsSoFar g.K.Knowledge.form l.fn.self l.fn.events.items l.yielded (into_iter_items l.event-iterator) l.at l.self
