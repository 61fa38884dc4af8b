use Rattle.std.proofs.Common.{◌≡◌, ℕ, List, Some, cond, take}
use Rattle.mr_compare.specs.Sides.{at_digest}
use Rattle.mr_fold.specs.inner.Lacking.{is_told_of, unshown}
use Rattle.mr_fold.proofs.lacking.without_lacking.Given as goal

-- so it is of the items so far
abbrev pub invariant-loop-item : goal.invariant-loop-item
invariant-loop-item l = (digest : List ℕ) → at_digest l.left.entries digest ≡ cond (is_told_of l.digests.entries (take l.item-index l.lacking) digest) (Some unshown) (at_digest l.fn.left.entries digest)
