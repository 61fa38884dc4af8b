use Rattle.std.proofs.Common.{All, map}
use Rattle.mr_itemset.proofs.Names.{Covers, normal_known, vector_has}
use Rattle.mr_itemset.proofs.WalkLemmas.{lent}
use Rattle.mr_itemset.proofs.knowledge.ItemsUpTo.covers_listed.Given as goal

-- what is listed so far is known
abbrev pub invariant-loop-item : goal.invariant-loop-item
invariant-loop-item g l = All (λ x. Covers (normal_known l.self x.item) (vector_has x.vector)) (map lent l.yielded)
