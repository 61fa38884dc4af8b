use Rattle.std.proofs.Common.{arith, sym, ap, ◌∙◌, ◌≡◌}
use Rattle.mr_concise.proofs.Names.{AuthorColumn, Extent, column_of, empty_column, get_or_default, on_ok_weaker, with_column, with_counter}
use Rattle.mr_concise.proofs.VectorLemmas.{column_of-at, column_of-past, column_of-missed}
use Rattle.mr_concise.proofs.VectorInsertLemmas.{with_one-set, few-empty}
use Rattle.mr_concise.proofs.set.insert_in.Goals as goal
use Rattle.mr_concise.proofs.set.insert_in.Goals.{else-at-len-via-then-at-len+else-id, else-at-len-via-else-at-len}

pub returns-then-id-clause-ok : goal.returns-then-id-clause-ok
returns-then-id-clause-ok c = on_ok_weaker c.insert.result (λ e. with_one-set c.args.columns.now.items c.place-at.result c.args.author c.args.counter c.index_mut-found.result.now c.insert.new.self (rw c.deref.ensures.value at c.place-at.ensures.place.0) (omega arith) c.index_mut-found.ensures.value (ap (λ (z : AuthorColumn). z.author) (c.index_mut-found.ensures.value ∙ get_or_default c.args.columns.now.items c.place-at.result c.index_mut-found.result.now c.index.result.now (omega arith) ∙ sym c.index.ensures) ∙ (cc)) e) c.insert.ensures.ok

pub returns-then-id-clause-many : goal.returns-then-id-clause-many
returns-then-id-clause-many c =
    let column = column_of-at c.args.columns.now.items c.place-at.result c.args.author c.index_mut-found.result.now (rw c.deref.ensures.value at c.place-at.ensures.place.0) (omega arith) c.index_mut-found.ensures.value (ap (λ (z : AuthorColumn). z.author) (c.index_mut-found.ensures.value ∙ get_or_default c.args.columns.now.items c.place-at.result c.index_mut-found.result.now c.index.result.now (omega arith) ∙ sym c.index.ensures) ∙ (cc)) in
    rw column at c.insert.ensures.many

pub returns-in_default-clause-many : goal.returns-in_default-clause-many
returns-in_default-clause-many c =
    let missing : column_of c.args.columns.now.items c.args.author ≡ empty_column = elim c.else-at-len.branch [
      | else-at-len-via-then-at-len+else-id w ↦ column_of-missed 0 c.args.columns.now.items c.place-at.result c.args.author w.index.result.now c.requires.columns (rw c.deref.ensures.value at c.place-at.ensures.place.0) (let l = w.if-at-len.true in omega arith) w.index.ensures (rw (← w.index.ensures) at ((rw c.deref.ensures.value at c.place-at.ensures.place.1) c.place-at.result w.index.result.now (omega arith) (let l = w.if-at-len.true in omega arith))) (λ e. w.if-id.false (cc))
      | else-at-len-via-else-at-len w ↦ column_of-past c.args.columns.now.items c.place-at.result c.args.author (rw c.deref.ensures.value at c.place-at.ensures.place.0) (let l = w.if-at-len.false in omega arith)
    ] in
    (λ h. absurd (cc), λ many. absurd (few-empty (column_of c.args.columns.now.items c.args.author) c.args.counter missing c.requires.counter.0 many))

pub returns-in_default-put-clause-many : goal.returns-in_default-put-clause-many
returns-in_default-put-clause-many c =
    let missing : column_of c.args.columns.now.items c.args.author ≡ empty_column = elim c.else-at-len.branch [
      | else-at-len-via-then-at-len+else-id w ↦ column_of-missed 0 c.args.columns.now.items c.place-at.result c.args.author w.index.result.now c.requires.columns (rw c.deref.ensures.value at c.place-at.ensures.place.0) (let l = w.if-at-len.true in omega arith) w.index.ensures (rw (← w.index.ensures) at ((rw c.deref.ensures.value at c.place-at.ensures.place.1) c.place-at.result w.index.result.now (omega arith) (let l = w.if-at-len.true in omega arith))) (λ e. w.if-id.false (cc))
      | else-at-len-via-else-at-len w ↦ column_of-past c.args.columns.now.items c.place-at.result c.args.author (rw c.deref.ensures.value at c.place-at.ensures.place.0) (let l = w.if-at-len.false in omega arith)
    ] in
    (λ h. absurd (cc), λ many. absurd (few-empty (column_of c.args.columns.now.items c.args.author) c.args.counter missing c.requires.counter.0 many))

pub returns-clause-many : goal.returns-clause-many
returns-clause-many c =
    let missing : column_of c.args.columns.now.items c.args.author ≡ empty_column = elim c.else-at-len.branch [
      | else-at-len-via-then-at-len+else-id w ↦ column_of-missed 0 c.args.columns.now.items c.place-at.result c.args.author w.index.result.now c.requires.columns (rw c.deref.ensures.value at c.place-at.ensures.place.0) (let l = w.if-at-len.true in omega arith) w.index.ensures (rw (← w.index.ensures) at ((rw c.deref.ensures.value at c.place-at.ensures.place.1) c.place-at.result w.index.result.now (omega arith) (let l = w.if-at-len.true in omega arith))) (λ e. w.if-id.false (cc))
      | else-at-len-via-else-at-len w ↦ column_of-past c.args.columns.now.items c.place-at.result c.args.author (rw c.deref.ensures.value at c.place-at.ensures.place.0) (let l = w.if-at-len.false in omega arith)
    ] in
    (λ h. absurd (cc), λ many. absurd (few-empty (column_of c.args.columns.now.items c.args.author) c.args.counter missing c.requires.counter.0 many))

pub returns-clause-ok : goal.returns-clause-ok
returns-clause-ok c =
    let missing : column_of c.args.columns.now.items c.args.author ≡ empty_column = elim c.else-at-len.branch [
      | else-at-len-via-then-at-len+else-id w ↦ column_of-missed 0 c.args.columns.now.items c.place-at.result c.args.author w.index.result.now c.requires.columns (rw c.deref.ensures.value at c.place-at.ensures.place.0) (let l = w.if-at-len.true in omega arith) w.index.ensures (rw (← w.index.ensures) at ((rw c.deref.ensures.value at c.place-at.ensures.place.1) c.place-at.result w.index.result.now (omega arith) (let l = w.if-at-len.true in omega arith))) (λ e. w.if-id.false (cc))
      | else-at-len-via-else-at-len w ↦ column_of-past c.args.columns.now.items c.place-at.result c.args.author (rw c.deref.ensures.value at c.place-at.ensures.place.0) (let l = w.if-at-len.false in omega arith)
    ] in
    c.in-Ok-put.ensures.ok ∙ ap (λ (k : Extent). with_column (record { author = c.args.author; column = k }) c.args.columns.now.items) (c.in-Ok.ensures.ok ∙ ap (λ (e : Extent). with_counter e c.args.counter) (c.empty-column.ensures ∙ sym missing))
