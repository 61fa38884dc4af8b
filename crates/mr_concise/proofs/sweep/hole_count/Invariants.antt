use Rattle.std.proofs.Common.{◌-◌}
use Rattle.mr_concise.proofs.Names.{COUNTERS_END, of_author}
use Rattle.mr_concise.proofs.SweepLemmas.{SweptCount}
use Rattle.mr_concise.proofs.sweep.hole_count.Given as goal

-- the holes found so far are as many as count
abbrev pub invariant-loop-start : goal.invariant-loop-start
invariant-loop-start g l = SweptCount (of_author (g.S.Source.has l.source) l.author) l.count l.at

abbrev pub decreases-loop-start : goal.decreases-loop-start
decreases-loop-start g l = COUNTERS_END - l.at
