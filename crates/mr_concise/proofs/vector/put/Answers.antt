use Rattle.std.proofs.Common.{arith, ◌∙◌}
use Rattle.mr_concise.proofs.VectorLemmas.{push-with_column, insert-with_column, set-with_column, above-place}
use Rattle.mr_concise.proofs.vector.put.Goals as goal

pub returns-in_ok-push-clause-ok : goal.returns-in_ok-push-clause-ok
returns-in_ok-push-clause-ok c =
    let before = rw c.deref.ensures.value at c.place-at.ensures.place.0 in
    c.in_ok-push.ensures.items ∙ push-with_column c.args.new c.args.columns.now.items c.place-at.result before (omega arith)

pub returns-then-id-clause-ok : goal.returns-then-id-clause-ok
returns-then-id-clause-ok c = set-with_column c.args.new c.args.columns.now.items c.place-at.result c.index.result.now (rw c.deref.ensures.value at c.place-at.ensures.place.0) (omega arith) c.index.ensures (cc)

pub returns-in_ok-insert-clause-ok : goal.returns-in_ok-insert-clause-ok
returns-in_ok-insert-clause-ok c =
    let before = rw c.deref.ensures.value at c.place-at.ensures.place.0 in
    let from = rw c.deref.ensures.value at c.place-at.ensures.place.1 in
    c.in_ok-insert.ensures.items ∙ insert-with_column c.args.new c.args.columns.now.items c.place-at.result before (λ d l. above-place c.args.new c.args.columns.now.items c.place-at.result c.index.result.now from l c.index.ensures (λ e. c.if-id.false (cc)) d) (omega arith)
