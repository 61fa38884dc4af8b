use Rattle.std.proofs.Common.{refl}
use Rattle.mr_wire.proofs.RunLemmas.{begins, goes_on, fails, is_done}
use Rattle.mr_wire.proofs.WatchLemmas.{holes_more}
use Rattle.mr_wire.proofs.vector.holes.Goals as goal

pub loop-init : goal.loop-init
loop-init c = begins c.room-holes.ensures (record { version = refl; item = refl })

pub returns-in_err-hole : goal.returns-in_err-hole
returns-in_err-hole c = rw c.from_residual.ensures (fails c.loop.counter c.loop-test.true c.loop.invariant c.in_err-hole.ensures)

pub loop-preserved : goal.loop-preserved
loop-preserved c =
    rw c.with_hole-seen.ensures
    (goes_on c.loop.counter c.loop-test.true c.loop.invariant c.in_ok-hole.ensures c.keep.ensures refl
    (λ xs told. holes_more c.args.watched c.loop.seen xs c.in_ok-hole.hole told))

pub returns : goal.returns
returns c = is_done c.loop.counter c.loop-test.false c.loop.invariant
