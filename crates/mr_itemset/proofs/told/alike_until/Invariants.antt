use Rattle.std.proofs.Common.{◌≡◌, ◌≤◌, ◌<◌, ◌-◌, ℕ, length, get_or}
use Rattle.mr_concise.specs.declared.column.Hole.{Hole}
use Rattle.mr_itemset.proofs.told.alike_until.Given as goal

-- so many holes are the same
abbrev pub invariant-loop-shared : goal.invariant-loop-shared
invariant-loop-shared l = record {
  in_left : l.shared ≤ length l.left;
  in_right : l.shared ≤ length l.right;
  same : (k : ℕ) (d : Hole) → k < l.shared → get_or l.left k d ≡ get_or l.right k d;
}

abbrev pub decreases-loop-shared : goal.decreases-loop-shared
decreases-loop-shared l = length l.left - l.shared
