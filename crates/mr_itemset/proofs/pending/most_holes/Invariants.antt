use Rattle.std.proofs.Common.{◌≤◌, All, length, take}
use Rattle.mr_concise.specs.declared.column.TheConstants.{MAX_HOLES}
use Rattle.mr_itemset.proofs.pending.most_holes.Given as goal

-- no column so far has more holes
abbrev pub invariant-loop-x : goal.invariant-loop-x
invariant-loop-x l = record {
  holes : All (λ x. length x.column.holes ≤ l.most) (take l.x-index l.x-items);
  bound : l.most ≤ MAX_HOLES;
}
