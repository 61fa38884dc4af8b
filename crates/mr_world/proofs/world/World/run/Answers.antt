use Rattle.std.specs.Vec.Iter.{into_iter_items}
use Rattle.mr_world.proofs.Running.Loops.{events_answered, events_stopped}
use Rattle.mr_world.proofs.world.World.run.Goals as goal

pub loop-event-preserved : goal.loop-event-preserved
loop-event-preserved g c =
    events_answered g.K.Knowledge.form c.args.self c.loop-event.self c.happen.new.self c.args.events.items c.loop-event.yielded (into_iter_items c.loop-event.event-iterator) (into_iter_items c.next.new.self) c.loop-event.at c.in-Some.event
    c.in-Ok.ensures.meets.0 c.loop-event.invariant c.in-Some.ensures.steps.0 c.in-Ok.ensures.meets.1

pub returns-in-Err-clause-stopped : goal.returns-in-Err-clause-stopped
returns-in-Err-clause-stopped g c =
    events_stopped g.K.Knowledge.form c.args.self c.loop-event.self c.happen.new.self c.args.events.items c.loop-event.yielded (into_iter_items c.loop-event.event-iterator) (into_iter_items c.next.new.self) c.loop-event.at c.in-Some.event c.in-Err.fault
    c.loop-event.invariant c.in-Some.ensures.steps.0 c.in-Err.ensures.meets
