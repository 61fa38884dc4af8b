use Rattle.std.proofs.Common.{◌≡◌, [], drop, arith, ap, sym, ◌∙◌}
use Rattle.mr_sync.proofs.Names.{common_steps, with_waiting}
use Rattle.mr_sync.proofs.TakenLists.{waiting_more}
use Rattle.mr_sync.proofs.vouching.note_waiting.Goals as goal

pub loop-one-preserved : goal.loop-one-preserved
loop-one-preserved c =
    waiting_more c.args.list.now c.loop-one.one-index c.one-item.result c.loop-one.waiting.entries _ _ c.loop-one-test.true c.one-item.is c.loop-one.invariant c.in_ok-insert.ensures.entries

pub returns : goal.returns
returns c =
    let none : drop c.loop-one.one-index c.args.list.now ≡ [] = grind (arith, common_steps) in
    ap (with_waiting c.loop-one.waiting.entries) (sym none) ∙ c.loop-one.invariant
