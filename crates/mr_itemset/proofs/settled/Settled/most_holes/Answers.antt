use Rattle.std.proofs.Common.{◌∙◌}
use Rattle.mr_itemset.proofs.Names.{All-nil, All-push, All-weaker, HasAtMost, MAX_HOLES}
use Rattle.mr_itemset.proofs.WalkLemmas.{All-read}
use Rattle.mr_itemset.proofs.KeptLemmas.{sparse_all, at_most_more}
use Rattle.mr_itemset.proofs.settled.Settled.most_holes.Goals as goal

pub loop-vector-init : goal.loop-vector-init
loop-vector-init g c = record {
  all = rw c.for_all.ensures.is at c.most_holes-most.ensures.most;
  listed = All-nil (λ vector. HasAtMost c.most_holes-most.result vector.now);
  bound = c.most_holes-most.ensures.bound;
}

pub loop-vector-preserved : goal.loop-vector-preserved
loop-vector-preserved g c =
    let old = c.loop-vector.invariant in
    let higher = c.higher-most.ensures in
    let most = c.higher-most.result in record {
      all = at_most_more c.args.self.now.all c.loop-vector.most most higher.first old.all;
      listed =
          All-push (λ vector. HasAtMost most vector.now) c.loop-vector.yielded c.in-Some.vector
          (All-weaker (λ vector. HasAtMost c.loop-vector.most vector.now) (λ vector. HasAtMost most vector.now) (λ vector. at_most_more vector.now c.loop-vector.most most higher.first) c.loop-vector.yielded old.listed)
          (at_most_more c.in-Some.vector.now c.most_holes.result most higher.second c.most_holes.ensures.most);
      bound = higher.least MAX_HOLES old.bound c.most_holes.ensures.bound;
    }

pub returns-clause-most : goal.returns-clause-most
returns-clause-most g c =
    sparse_all c.args.self.now c.loop-vector.most c.loop-vector.invariant.all
    (All-read (HasAtMost c.loop-vector.most) _ _ _ _ _ _ (c.into_iter-vector-iterator.ensures.into_iter_gives ∙ c.vectors-vector-items.ensures.is) c.loop-vector.yielded_by c.in-None.is c.next.ensures.steps c.loop-vector.invariant.listed)
