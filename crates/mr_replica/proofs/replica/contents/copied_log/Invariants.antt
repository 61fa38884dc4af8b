use Rattle.std.proofs.Common.{◌≡◌, take}
use Rattle.mr_replica.proofs.replica.contents.copied_log.Given as goal

abbrev pub invariant-loop-event : goal.invariant-loop-event
invariant-loop-event l = l.copied.items ≡ take l.event-index l.log
