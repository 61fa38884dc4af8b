use Rattle.mr_script.proofs.Rounds.{RoundsSoFar}
use Rattle.mr_script.proofs.sync.take_records.Given as goal

abbrev pub invariant-loop-taken : goal.invariant-loop-taken
invariant-loop-taken g l = RoundsSoFar g.K.Knowledge.form l.sync l.stream l.fn.world l.world l._taken l.counts
