use Rattle.std.proofs.Common.{◌≡◌, ◌≤◌, arith}
use Rattle.std.proofs.lemmas.Result.{err_from_is_err_and}
use Rattle.mr_script.proofs.Rounds.{rounds_begin, rounds_more, rounds_ended, rounds_enough, rounds_failed, few_items, few_move_outs}
use Rattle.mr_script.proofs.sync.take_records.Goals as goal

pub loop-taken-init : goal.loop-taken-init
loop-taken-init g c = rounds_begin g.K.Knowledge.form _ _ _

pub with_counted-counts-requires-clause-items : goal.with_counted-counts-requires-clause-items
with_counted-counts-requires-clause-items g c =
    let few : c.loop-taken.counts.items ≤ c.loop-taken._taken = few_items g.K.Knowledge.form _ _ _ _ _ _ c.loop-taken.invariant in
    omega (arith, few)

pub with_counted-counts-requires-clause-move_outs : goal.with_counted-counts-requires-clause-move_outs
with_counted-counts-requires-clause-move_outs g c =
    let few : c.loop-taken.counts.move_outs ≤ c.loop-taken._taken = few_move_outs g.K.Knowledge.form _ _ _ _ _ _ c.loop-taken.invariant in
    omega (arith, few)

pub loop-taken-preserved : goal.loop-taken-preserved
loop-taken-preserved g c =
    rw c.with_counted-counts.ensures (rounds_more g.K.Knowledge.form _ _ _ _ _ _ c.loop-taken.invariant _ _ (rw c.in-Taken.is at c.in_ok-told.ensures))

pub returns-in-Ended : goal.returns-in-Ended
returns-in-Ended g c =
    rounds_ended g.K.Knowledge.form _ _ _ _ _ _ c.loop-taken.invariant _ _ (rw c.unwrap_or-taken-end.ensures at c.loop-taken-test.true) (rw c.in-Ended.is at c.in_ok-told.ensures)

pub returns-in_err-told : goal.returns-in_err-told
returns-in_err-told g c =
    let p = err_from_is_err_and c.from_residual.result c.from_residual.ensures.1 in
    rw (p.1, p.2) (rounds_failed g.K.Knowledge.form _ _ _ _ _ _ c.loop-taken.invariant _ _ (rw c.unwrap_or-taken-end.ensures at c.loop-taken-test.true) c.in_err-told.ensures)

pub returns : goal.returns
returns g c =
    let all : c.loop-taken._taken ≡ c.unwrap_or-taken-end.result = omega arith in
    rounds_enough g.K.Knowledge.form _ _ _ _ _ _ c.loop-taken.invariant (rw c.unwrap_or-taken-end.ensures at all)
