use Rattle.std.proofs.Common.{◌+◌, ap, sym}
use Rattle.mr_wire.proofs.RunLemmas.{goes_on_with, fails, is_done}
use Rattle.mr_wire.proofs.WatchLemmas.{columns_more}
use Rattle.mr_wire.proofs.vector.columns.Goals as goal

pub returns-in_err-column : goal.returns-in_err-column
returns-in_err-column c = rw c.from_residual.ensures (fails c.loop.counter c.loop-test.true c.loop.invariant c.in_err-column.ensures)

pub loop-preserved : goal.loop-preserved
loop-preserved c =
    rw c.or-seen.ensures
    (goes_on_with c.loop.counter c.loop-test.true c.loop.invariant c.keep.ensures c.in_ok-column.ensures (λ x note. ap (λ n. n + 1) (sym note.author))
    (λ xs x told note. columns_more c.args.watch c.loop.seen xs c.in_ok-column.head x note told))

pub returns : goal.returns
returns c = is_done c.loop.counter c.loop-test.false c.loop.invariant
