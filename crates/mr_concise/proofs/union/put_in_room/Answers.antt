use Rattle.std.proofs.Common.{arith, ◌∙◌}
use Rattle.mr_concise.proofs.VectorLemmas.{insert-with_column, set-with_column, above-place}
use Rattle.mr_concise.proofs.union.put_in_room.Goals as goal
use Rattle.mr_concise.proofs.union.put_in_room.Goals.{else-at-len-via-then-at-len+else-id, else-at-len-via-else-at-len}

pub returns-then-id-clause-placed : goal.returns-then-id-clause-placed
returns-then-id-clause-placed c = set-with_column c.args.new c.args.columns.now.items c.place-at.result c.index.result.now (rw c.deref.ensures.value at c.place-at.ensures.place.0) (omega arith) c.index.ensures (cc)

pub returns-in-Ok-clause-placed : goal.returns-in-Ok-clause-placed
returns-in-Ok-clause-placed c =
    let before = rw c.deref.ensures.value at c.place-at.ensures.place.0 in
    let from = rw c.deref.ensures.value at c.place-at.ensures.place.1 in
    c.in-Ok.ensures.items ∙ elim c.else-at-len.branch [
      | else-at-len-via-then-at-len+else-id w ↦ insert-with_column c.args.new c.args.columns.now.items c.place-at.result before (λ d l. above-place c.args.new c.args.columns.now.items c.place-at.result w.index.result.now from l w.index.ensures (λ e. w.if-id.false (cc)) d) (omega arith)
      | else-at-len-via-else-at-len w ↦ insert-with_column c.args.new c.args.columns.now.items c.place-at.result before (λ d l. absurd (omega arith)) (omega arith)
    ]
