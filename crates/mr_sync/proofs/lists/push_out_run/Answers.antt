use Rattle.std.proofs.Common.{refl}
use Rattle.mr_wire.proofs.RunLemmas.{goes_on, fails, is_done}
use Rattle.mr_sync.proofs.lists.push_out_run.Goals as goal

pub returns-in_err-one : goal.returns-in_err-one
returns-in_err-one c = rw c.from_residual.ensures (fails c.loop.counter c.loop-test.true c.loop.invariant c.in_err-one.ensures)

pub loop-preserved : goal.loop-preserved
loop-preserved c = goes_on c.loop.counter c.loop-test.true c.loop.invariant c.in_ok-one.ensures c.keep.ensures refl (λ xs told. tt)

pub returns : goal.returns
returns c = is_done c.loop.counter c.loop-test.false c.loop.invariant
