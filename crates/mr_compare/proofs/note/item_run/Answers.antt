use Rattle.mr_wire.proofs.RunLemmas.{goes_on, fails, is_done}
use Rattle.mr_compare.proofs.note.item_run.Goals as goal

pub returns-in_err-version : goal.returns-in_err-version
returns-in_err-version c = rw c.from_residual.ensures (fails c.loop.counter c.loop-test.true c.loop.invariant c.in_err-version.ensures)

pub loop-preserved : goal.loop-preserved
loop-preserved c = goes_on c.loop.counter c.loop-test.true c.loop.invariant c.in_ok-version.ensures c.keep.ensures c.new.ensures (λ xs told. tt)

pub returns : goal.returns
returns c = is_done c.loop.counter c.loop-test.false c.loop.invariant
