use Rattle.std.proofs.Common.{◌-◌}
use Rattle.mr_concise.proofs.Names.{COUNTERS_END, of_author}
use Rattle.mr_concise.proofs.SweepLemmas.{Swept}
use Rattle.mr_concise.proofs.sweep.gathered_column.Given as goal

-- the holes found so far, and where the last run ended
abbrev pub invariant-loop-start : goal.invariant-loop-start
invariant-loop-start g l = Swept (of_author (g.S.Source.has l.source) l.author) l.holes.items l.at

abbrev pub decreases-loop-start : goal.decreases-loop-start
decreases-loop-start g l = COUNTERS_END - l.at
