use Rattle.std.proofs.Common.{refl}
use Rattle.mr_wire.proofs.RunLemmas.{goes_on_with, fails, is_done}
use Rattle.mr_wire.proofs.filter.clauses.Goals as goal

pub returns-in_err-clause : goal.returns-in_err-clause
returns-in_err-clause c = rw c.from_residual.ensures (fails c.loop.counter c.loop-test.true c.loop.invariant c.in_err-clause.ensures)

pub loop-preserved : goal.loop-preserved
loop-preserved c = goes_on_with c.loop.counter c.loop-test.true c.loop.invariant c.keep.ensures c.in_ok-clause.ensures (λ x note. refl) (λ xs x told note. tt)

pub returns : goal.returns
returns c = is_done c.loop.counter c.loop-test.false c.loop.invariant
