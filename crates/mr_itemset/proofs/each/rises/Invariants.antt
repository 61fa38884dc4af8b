use Rattle.mr_itemset.proofs.RisingLemmas.{StepsUp}
use Rattle.mr_itemset.proofs.each.rises.Given as goal

-- up to here each item is lower than the next one
abbrev pub invariant-loop-at : goal.invariant-loop-at
invariant-loop-at l = StepsUp l.items l.at
