use Rattle.std.proofs.Common.{◌≡◌, map}
use Rattle.mr_itemset.specs.inner.Entries.{listed_of}
use Rattle.mr_itemset.proofs.WalkLemmas.{lent}
use Rattle.mr_itemset.proofs.learn.copies.Given as goal

-- the items so far are copied
abbrev pub invariant-loop-item : goal.invariant-loop-item
invariant-loop-item l = listed_of l.copies.entries ≡ map lent l.yielded
