use Rattle.std.proofs.Common.{◌-◌, ◌<◌, ℕ}
use Rattle.mr_concise.proofs.Names.{HasFewHoles, of_author}
use Rattle.mr_concise.proofs.sweep.would_have_too_many.Given as goal

abbrev pub invariant-loop-author : goal.invariant-loop-author
invariant-loop-author g l = (q : ℕ) → q < l.id → HasFewHoles (of_author (g.S.Source.has l.source) q)

abbrev pub decreases-loop-author : goal.decreases-loop-author
decreases-loop-author g l = 64 - l.id
