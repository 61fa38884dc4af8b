use Rattle.std.proofs.Common.{◌-◌, ◌<◌, ◌≤◌, ℕ}
use Rattle.mr_concise.proofs.Names.{ColumnsHaveAtMost, HasAtMostHoles, of_author}
use Rattle.mr_concise.proofs.sweep.most_holes.Given as goal

-- the most holes of the authors so far
abbrev pub invariant-loop-author : goal.invariant-loop-author
invariant-loop-author g l = record {
  most : (q : ℕ) → q < l.id → HasAtMostHoles (of_author (g.S.Source.has l.source) q) l.most;
  least : (n : ℕ) → ColumnsHaveAtMost (g.S.Source.has l.source) n → l.most ≤ n;
}

abbrev pub decreases-loop-author : goal.decreases-loop-author
decreases-loop-author g l = 64 - l.id
