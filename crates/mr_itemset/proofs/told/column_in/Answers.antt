use Rattle.std.proofs.Common.{sym, ◌∙◌, add-one, refl}
use Rattle.mr_itemset.proofs.HoleWalk.{column_passed, column_found, column_none}
use Rattle.mr_itemset.proofs.KeptLemmas.{columns_at}
use Rattle.mr_itemset.proofs.told.column_in.Goals as goal

pub loop-x-init : goal.loop-x-init
loop-x-init c = rw c.author_columns-x-items.ensures.is refl

pub loop-x-preserved : goal.loop-x-preserved
loop-x-preserved c =
    c.loop-x.invariant ∙ rw add-one (column_passed c.author_columns-x-items.result.now c.loop-x.x-index c.args.author c.x-item.result c.loop-x-test.true c.x-item.is (λ same. c.if-id.false (cc)))

pub returns-then-id-clause-is : goal.returns-then-id-clause-is
returns-then-id-clause-is c =
    sym (c.loop-x.invariant ∙ column_found c.author_columns-x-items.result.now c.loop-x.x-index c.args.author c.x-item.result c.loop-x-test.true c.x-item.is (cc))

pub returns-then-id-clause-ok : goal.returns-then-id-clause-ok
returns-then-id-clause-ok c =
    columns_at 0 c.author_columns-x-items.result.now c.loop-x.x-index c.x-item.result (rw (← c.author_columns-x-items.ensures.is) at c.author_columns-x-items.ensures.vector) c.loop-x-test.true c.x-item.is

pub returns-clause-is : goal.returns-clause-is
returns-clause-is c = c.loop-x.invariant ∙ column_none c.author_columns-x-items.result.now c.loop-x.x-index c.args.author c.loop-x-test.false
