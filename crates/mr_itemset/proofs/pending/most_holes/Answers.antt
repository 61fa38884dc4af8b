use Rattle.std.proofs.Common.{◌≡◌, ◌≤◌, length, take, ap, ◌∙◌, arith}
use Rattle.mr_itemset.proofs.Names.{All-more, IsColumn, MAX_HOLES, take-length}
use Rattle.mr_itemset.proofs.KeptLemmas.{holes_all, more_holes, columns_at}
use Rattle.mr_itemset.proofs.pending.most_holes.Goals as goal

pub loop-x-preserved : goal.loop-x-preserved
loop-x-preserved c = record {
  holes =
      All-more (λ x. length x.column.holes ≤ c.higher-most.result) c.author_columns-x-items.result.now c.loop-x.x-index c.x-item.result (omega arith)
      (more_holes (take c.loop-x.x-index c.author_columns-x-items.result.now) c.loop-x.most c.higher-most.result c.higher-most.ensures.first c.loop-x.invariant.holes)
      (rw (← c.x-item.is, ← c.holes.ensures) c.higher-most.ensures.second);
  bound = let bound = c.loop-x.invariant.bound in c.higher-most.ensures.least MAX_HOLES (omega arith) (let column : IsColumn c.x-item.result.column = columns_at 0 c.author_columns-x-items.result.now c.loop-x.x-index c.x-item.result (rw (← c.author_columns-x-items.ensures.is) at c.author_columns-x-items.ensures.vector) (omega arith) c.x-item.is in rw c.holes.ensures column.few);
}

pub returns-clause-most : goal.returns-clause-most
returns-clause-most c =
    let at_end : c.loop-x.x-index ≡ length c.author_columns-x-items.result.now = omega arith in
    let whole : take c.loop-x.x-index c.author_columns-x-items.result.now ≡ c.author_columns-x-items.result.now = ap (λ k. take k c.author_columns-x-items.result.now) at_end ∙ take-length c.author_columns-x-items.result.now in
    holes_all c.args.vector.now c.loop-x.most (rw (whole ∙ c.author_columns-x-items.ensures.is) at c.loop-x.invariant.holes)
