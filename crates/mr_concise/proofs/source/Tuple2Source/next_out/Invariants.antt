use Rattle.std.proofs.Common.{◌-◌}
use Rattle.mr_concise.proofs.Names.{COUNTERS_END, of_author}
use Rattle.mr_concise.proofs.AnyOfLemmas.{IsPastFirst}
use Rattle.mr_concise.proofs.source.Tuple2Source.next_out.Given as goal

abbrev pub invariant-loop-at : goal.invariant-loop-at
invariant-loop-at g l = IsPastFirst (of_author (g.A.Source.has l.self.0) l.author) (of_author (g.B.Source.has l.self.1) l.author) l.from l.at

abbrev pub decreases-loop-at : goal.decreases-loop-at
decreases-loop-at g l = COUNTERS_END - l.at
