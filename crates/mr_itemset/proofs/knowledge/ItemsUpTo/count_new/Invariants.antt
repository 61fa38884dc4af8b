use Rattle.std.proofs.Common.{◌≤◌, take}
use Rattle.mr_itemset.specs.inner.Each.{CountsNew}
use Rattle.mr_itemset.proofs.knowledge.ItemsUpTo.count_new.Given as goal

-- the items so far are counted
abbrev pub invariant-loop-at : goal.invariant-loop-at
invariant-loop-at g l = record {
  counted : CountsNew l.self (take l.at l.items) l.count;
  few : l.count ≤ l.at;
}
