use Rattle.std.proofs.Common.{◌≡◌, ◌++◌}
use Rattle.mr_fold.proofs.expiring.sorted.Given as goal

-- the digests so far and those that are left are all
abbrev pub invariant-loop-digest : goal.invariant-loop-digest
invariant-loop-digest l = l.list.items ++ l.digest-iterator ≡ l.digests.keys
