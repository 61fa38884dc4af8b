use Rattle.std.proofs.Common.{length}
use Rattle.mr_desk.proofs.LogLemmas.{ReadSoFar}
use Rattle.mr_desk.proofs.log.events_of.Given as goal

abbrev pub invariant-loop-rest : goal.invariant-loop-rest
invariant-loop-rest l = ReadSoFar l.bytes l.events.items l.rest

abbrev pub decreases-loop-rest : goal.decreases-loop-rest
decreases-loop-rest l = length l.rest
