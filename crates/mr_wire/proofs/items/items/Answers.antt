use Rattle.mr_wire.proofs.ItemLemmas.{items_more}
use Rattle.mr_wire.proofs.RunLemmas.{goes_on, fails, is_done}
use Rattle.mr_wire.proofs.items.items.Goals as goal

pub returns-in_err-item : goal.returns-in_err-item
returns-in_err-item c = rw c.from_residual.ensures (fails c.loop.counter c.loop-test.true c.loop.invariant c.in_err-item.ensures)

pub loop-preserved : goal.loop-preserved
loop-preserved c =
    rw c.first_of-first.ensures
    (goes_on c.loop.counter c.loop-test.true c.loop.invariant c.in_ok-item.ensures c.keep.ensures c.new.ensures (λ xs told. items_more c.loop.first xs c.in_ok-item.item told))

pub returns : goal.returns
returns c = is_done c.loop.counter c.loop-test.false c.loop.invariant
