use Rattle.std.proofs.Common.{◌<◌, ◌≤◌, ◌-◌, ℕ}
use Rattle.mr_itemset.specs.inner.Lacking.{CoversAuthor}
use Rattle.mr_itemset.proofs.limits.lacks.Given as goal

-- of lower authors the source has what the set has
abbrev pub invariant-loop-author : goal.invariant-loop-author
invariant-loop-author g l = record {
  in_range : l.id ≤ 64;
  covered : (q : ℕ) → q < l.id → CoversAuthor (g.A.Source.has l.source) (g.S.Source.has l.set) q;
}

abbrev pub decreases-loop-author : goal.decreases-loop-author
decreases-loop-author g l = 65 - l.id
