use Rattle.std.proofs.Common.{arith, sym, ap, ◌∙◌, ◌≡◌}
use Rattle.mr_concise.proofs.Names.{AuthorColumn, Extent, IfOk-weaker, column_of, empty_column, get_or_default, with_column}
use Rattle.mr_concise.proofs.VectorLemmas.{column_of-at, column_of-past, column_of-missed}
use Rattle.mr_concise.proofs.AppendLemmas.{appended, run-appended, run-set}
use Rattle.mr_concise.proofs.fragments.append_run.Goals as goal
use Rattle.mr_concise.proofs.fragments.append_run.Goals.{else-at-len-via-then-at-len+else-id, else-at-len-via-else-at-len}

pub append-requires : goal.append-requires
append-requires c = rw (column_of-at c.args.columns.now.items c.place-at.result c.args.run.author c.index_mut-found.result.now (rw c.deref.ensures.value at c.place-at.ensures.place.0) (omega arith) c.index_mut-found.ensures.value (ap (λ (z : AuthorColumn). z.author) (c.index_mut-found.ensures.value ∙ get_or_default c.args.columns.now.items c.place-at.result c.index_mut-found.result.now c.index.result.now (omega arith) ∙ sym c.index.ensures) ∙ (cc))) c.requires.behind

pub returns-then-id : goal.returns-then-id
returns-then-id c =
    IfOk-weaker c.append.result _ _ (λ done had is. (run-set c.args.columns.now.items c.place-at.result c.args.run c.index_mut-found.result.now c.append.new.self c.requires.columns (omega arith) (rw c.deref.ensures.value at c.place-at.ensures.place.0) (omega arith) c.index_mut-found.ensures.value (ap (λ (z : AuthorColumn). z.author) (c.index_mut-found.ensures.value ∙ get_or_default c.args.columns.now.items c.place-at.result c.index_mut-found.result.now c.index.result.now (omega arith) ∙ sym c.index.ensures) ∙ (cc)) c.requires.behind (had is).0 (had is).1)) c.append.ensures

pub returns : goal.returns
returns c _ =
    let missing : column_of c.args.columns.now.items c.args.run.author ≡ empty_column = elim c.else-at-len.branch [
      | else-at-len-via-then-at-len+else-id w ↦ column_of-missed 0 c.args.columns.now.items c.place-at.result c.args.run.author w.index.result.now c.requires.columns (rw c.deref.ensures.value at c.place-at.ensures.place.0) (let l = w.if-at-len.true in omega arith) w.index.ensures (rw (← w.index.ensures) at ((rw c.deref.ensures.value at c.place-at.ensures.place.1) c.place-at.result w.index.result.now (omega arith) (let l = w.if-at-len.true in omega arith))) (λ e. w.if-id.false (cc))
      | else-at-len-via-else-at-len w ↦ column_of-past c.args.columns.now.items c.place-at.result c.args.run.author (rw c.deref.ensures.value at c.place-at.ensures.place.0) (let l = w.if-at-len.false in omega arith)
    ] in
    let had = c.in_ok-append.ensures c.if-not-branch.false in
    let mine : c.append-2.new.self ≡ appended (column_of c.args.columns.now.items c.args.run.author) c.args.run.first c.args.run.last = had.0 ∙ ap (λ (e : Extent). appended e c.args.run.first c.args.run.last) (c.empty-column.ensures ∙ sym missing) in
    run-appended c.args.columns.now.items c.put.new.columns.items c.args.run c.requires.columns (omega arith) c.requires.behind (rw mine at had.1) (c.in_ok-put.ensures.ok ∙ ap (λ (k : Extent). with_column (record { author = c.args.run.author; column = k }) c.args.columns.now.items) mine)
