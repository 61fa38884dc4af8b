use Rattle.std.specs.Vec.Iter.{into_iter_items}
use Rattle.mr_replica.proofs.Replaying.{event_admitted, event_refused}
use Rattle.mr_replica.proofs.replica.Replica.take_each.Goals as goal

pub loop-event-preserved : goal.loop-event-preserved
loop-event-preserved g c =
    event_admitted g.K.Knowledge.form c.args.self.now c.loop-event.self c.take_again.new.self c.args.events.items c.loop-event.yielded (into_iter_items c.loop-event.event-iterator) (into_iter_items c.next.new.self) c.loop-event.place c.in-Some.event
    c.loop-event.invariant c.in-Some.ensures.steps.0 c.in-Ok.ensures

pub returns-in-Err : goal.returns-in-Err
returns-in-Err g c =
    event_refused g.K.Knowledge.form c.args.self.now c.loop-event.self c.take_again.new.self c.args.events.items c.loop-event.yielded (into_iter_items c.loop-event.event-iterator) (into_iter_items c.next.new.self) c.loop-event.place c.in-Some.event c.in-Err.refusal
    c.loop-event.invariant c.in-Some.ensures.steps.0 c.in-Err.ensures
