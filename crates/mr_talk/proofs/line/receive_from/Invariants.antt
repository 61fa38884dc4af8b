use Rattle.mr_talk.specs.Line.{ahead}
use Rattle.mr_talk.specs.inner.Line.{IsSame}
use Rattle.mr_talk.proofs.line.receive_from.Given as goal

abbrev pub invariant-loop : goal.invariant-loop
invariant-loop g l = IsSame (ahead l.initial.reader (g.R.Read.remaining l.initial.input)) (ahead l.reader (g.R.Read.remaining l.input))
