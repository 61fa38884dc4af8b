use Rattle.std.proofs.Common.{arith, sym, ◌∙◌}
use Rattle.mr_concise.proofs.VectorLemmas.{column_of-at, column_of-past, column_of-missed}
use Rattle.mr_concise.proofs.vector.column_at.Goals as goal
use Rattle.mr_concise.proofs.vector.column_at.Goals.{then-at-columns+else-id, else-at-columns}

pub returns-then-id : goal.returns-then-id
returns-then-id c = c.lent.ensures ∙ column_of-at c.args.columns.now c.place-at.result c.args.author c.index-columns-at.result c.place-at.ensures.place.0 c.if-at-columns.true c.index-columns-at.is (cc)

pub returns : goal.returns
returns c = c.empty.ensures ∙ sym (elim c.if-at-columns.branch [
  | then-at-columns+else-id w ↦ column_of-missed 0 c.args.columns.now c.place-at.result c.args.author w.index-columns-at.result c.requires c.place-at.ensures.place.0 w.if-at-columns.true w.index-columns-at.is (rw (← w.index-columns-at.is) at (c.place-at.ensures.place.1 c.place-at.result w.index-columns-at.result (omega arith) w.if-at-columns.true)) (λ e. w.if-id.false (cc))
  | else-at-columns w ↦ column_of-past c.args.columns.now c.place-at.result c.args.author c.place-at.ensures.place.0 (let h = w.if-at-columns.false in omega arith)
])
