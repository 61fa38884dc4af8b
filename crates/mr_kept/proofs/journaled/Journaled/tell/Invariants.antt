use Rattle.mr_kept.proofs.TellLemmas.{GivenSoFar}
use Rattle.mr_kept.proofs.journaled.Journaled.tell.Given as goal

abbrev pub invariant-loop : goal.invariant-loop
invariant-loop g l = GivenSoFar g.K.Knowledge.form l.stream l.records l.bytes l.fn.self l.self l.counter l.left
