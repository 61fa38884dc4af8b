use Rattle.std.proofs.lemmas.List.{take_rest}
use Rattle.mr_desk.proofs.LogLemmas.{log-more}
use Rattle.mr_desk.proofs.log.events_of.Goals as goal

pub loop-rest-preserved : goal.loop-rest-preserved
loop-rest-preserved c =
    let rest = c.loop-rest.rest.now in
    rw (c.in_ok-push.ensures.items, take_rest rest c.in_ok-event.used) (log-more c.args.bytes.now rest c.loop-rest.events.items c.in_ok-event.event c.in_ok-event.used c.loop-rest.invariant c.in_ok-event.ensures.spelled)
