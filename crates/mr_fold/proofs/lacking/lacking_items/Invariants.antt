use Rattle.std.proofs.Common.{◌≡◌, ◌++◌}
use Rattle.mr_fold.specs.inner.Lacking.{lacking_items}
use Rattle.mr_fold.proofs.lacking.lacking_items.Given as goal

-- the items so far and those of the entries that are left are all
abbrev pub invariant-loop-digest : goal.invariant-loop-digest
invariant-loop-digest l = l.items.items ++ lacking_items l.lacking.keys l.digest-iterator ≡ lacking_items l.lacking.keys l.held.entries
