use Rattle.std.proofs.Common.{◌≤◌, All}
use Rattle.mr_itemset.proofs.Names.{HasAtMost, MAX_HOLES}
use Rattle.mr_itemset.proofs.settled.Settled.most_holes.Given as goal

-- no vector so far has a column of more holes
abbrev pub invariant-loop-vector : goal.invariant-loop-vector
invariant-loop-vector g l = record {
  all : HasAtMost l.most l.self.all;
  listed : All (λ vector. HasAtMost l.most vector.now) l.yielded;
  bound : l.most ≤ MAX_HOLES;
}
