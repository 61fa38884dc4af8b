use Rattle.std.proofs.Common.{◌-◌}
use Rattle.mr_concise.proofs.SweepLemmas.{GatheredTo}
use Rattle.mr_concise.proofs.sweep.gathered_columns.Given as goal

abbrev pub invariant-loop-author : goal.invariant-loop-author
invariant-loop-author g l = GatheredTo (g.S.Source.has l.source) l.columns.items l.id

abbrev pub decreases-loop-author : goal.decreases-loop-author
decreases-loop-author g l = 64 - l.id
