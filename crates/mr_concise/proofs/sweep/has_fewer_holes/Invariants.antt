use Rattle.std.proofs.Common.{◌-◌}
use Rattle.mr_forms.specs.Runs.{of_author}
use Rattle.mr_concise.proofs.SweepLemmas.{SweptCount}
use Rattle.mr_concise.proofs.sweep.has_fewer_holes.Given as goal

-- the holes found so far are as many as count
abbrev pub invariant-loop-count : goal.invariant-loop-count
invariant-loop-count g l = SweptCount (of_author (g.S.Source.has l.source) l.author) l.count l.at

abbrev pub decreases-loop-count : goal.decreases-loop-count
decreases-loop-count g l = l.limit - l.count
