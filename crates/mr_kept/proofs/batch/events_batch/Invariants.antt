use Rattle.std.proofs.Common.{take}
use Rattle.mr_kept.proofs.Names.{AreSoFar, contents}
use Rattle.mr_kept.proofs.batch.events_batch.Given as goal

abbrev pub invariant-loop-event : goal.invariant-loop-event
invariant-loop-event l = AreSoFar l.issued (take l.event-index l.events) (contents l.batch.entries.items) l.batch.issued l.batch.stream l.batch.nexts
