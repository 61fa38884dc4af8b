use Rattle.mr_wire.proofs.RunLemmas.{goes_on, fails, is_done}
use Rattle.mr_wire.proofs.label.label_run.Goals as goal

pub returns-in_err-label : goal.returns-in_err-label
returns-in_err-label c = rw c.from_residual.ensures (fails c.loop.counter c.loop-test.true c.loop.invariant c.in_err-label.ensures)

pub loop-preserved : goal.loop-preserved
loop-preserved c = goes_on c.loop.counter c.loop-test.true c.loop.invariant c.in_ok-label.ensures c.keep.ensures c.label_of.ensures (λ xs told. tt)

pub returns : goal.returns
returns c = is_done c.loop.counter c.loop-test.false c.loop.invariant
