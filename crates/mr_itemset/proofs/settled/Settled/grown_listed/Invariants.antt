use Rattle.std.proofs.Common.{map}
use Rattle.mr_itemset.proofs.Names.{IsGrown, listed_of}
use Rattle.mr_itemset.proofs.WalkLemmas.{lent}
use Rattle.mr_itemset.proofs.settled.Settled.grown_listed.Given as goal

-- the items so far have grown
abbrev pub invariant-loop-item : goal.invariant-loop-item
invariant-loop-item g l = IsGrown (g.A.Source.has l.added) l.all (map lent l.yielded) (listed_of l.listed.entries)
