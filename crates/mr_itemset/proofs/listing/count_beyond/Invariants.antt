use Rattle.std.proofs.Common.{◌≡◌, ◌+◌, length}
use Rattle.std.specs.List.{filter}
use Rattle.mr_itemset.specs.Folded.{united, gained}
use Rattle.mr_itemset.proofs.CountLemmas.{stays}
use Rattle.mr_itemset.proofs.listing.count_beyond.Given as goal

-- with those that are left they are all
abbrev pub invariant-loop-vector : goal.invariant-loop-vector
invariant-loop-vector g l = l.count + length (filter (stays l.pending (united l.settled.all l.pending)) l.vector-iterator) ≡ length (gained l.pending (united l.settled.all l.pending) l.settled.listed)
