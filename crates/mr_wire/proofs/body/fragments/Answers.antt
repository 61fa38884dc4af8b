use Rattle.std.proofs.Common.{ap, sym, Some}
use Rattle.mr_wire.proofs.RunLemmas.{goes_on_with, fails, is_done}
use Rattle.mr_wire.proofs.body.fragments.Goals as goal

pub returns-in_err-fragment : goal.returns-in_err-fragment
returns-in_err-fragment c = rw c.from_residual.ensures (fails c.loop.counter c.loop-test.true c.loop.invariant c.in_err-fragment.ensures)

pub loop-preserved : goal.loop-preserved
loop-preserved c = goes_on_with c.loop.counter c.loop-test.true c.loop.invariant c.keep.ensures c.in_ok-fragment.ensures (λ x note. ap (λ least. Some least) (sym note)) (λ xs x told note. tt)

pub returns : goal.returns
returns c = is_done c.loop.counter c.loop-test.false c.loop.invariant
