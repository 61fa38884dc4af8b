use Rattle.std.proofs.Common.{◌+◌, ◌∙◌, ℕ, List, drop, true, subst}
use Rattle.std.proofs.Math.ListN.{drop_of_length-le}
use Rattle.std.proofs.lemmas.List.{drop_more}
use Rattle.mr_kept.proofs.CloseLemmas.{ClosedSoFar, closes, closing_begins, one_more, stays_full}
use Rattle.mr_kept.proofs.closing.close_each.Goals as goal

pub loop-number-init : goal.loop-number-init
loop-number-init g c = closing_begins c.args.kind c.args.replica.now c.deref-number-items.result.now (c.deref-number-items.ensures.value ∙ c.in_ok-numbers.ensures)

pub loop-number-preserved : goal.loop-number-preserved
loop-number-preserved g c =
    let items = c.deref-number-items.result.now in
    let so_far = subst (λ (left : List ℕ). ClosedSoFar c.args.kind c.args.replica.now c.loop-number.replica left) (drop_more items c.loop-number.number-index 0 c.loop-number-test.true) c.loop-number.invariant in
    one_more g.K.Knowledge.form c.args.kind c.args.replica.now c.loop-number.replica c.cut.new.replica _ (drop (c.loop-number.number-index + 1) items) so_far c.in-Ok.ensures

pub returns-in-Err-LogFull : goal.returns-in-Err-LogFull
returns-in-Err-LogFull g c =
    stays_full g.K.Knowledge.form c.args.kind c.args.replica.now c.loop-number.replica c.cut.new.replica _ (drop c.loop-number.number-index c.deref-number-items.result.now) c.in-Err-LogFull.field-0 c.loop-number.invariant c.in-Err-LogFull.field-0-is c.in-Err-LogFull.ensures

pub returns : goal.returns
returns g c =
    let items = c.deref-number-items.result.now in
    closes c.args.kind c.args.replica.now c.loop-number.replica (drop c.loop-number.number-index items) true c.loop-number.invariant (drop_of_length-le items c.loop-number-test.false)
