use Rattle.std.proofs.Common.{subst, sym, arith, length, ◌+◌}
use Rattle.mr_settle.proofs.Names.{FindsLeftTo, done_of}
use Rattle.mr_settle.proofs.ArriveLemmas.{left_more, left_upto}
use Rattle.mr_settle.proofs.join.first_left.Goals as goal

pub loop-place-preserved : goal.loop-place-preserved
loop-place-preserved g c =
    subst (FindsLeftTo c.args.ends.now (done_of c.args.progress.now) (c.loop-place.place + 1)) (sym c.lower-first.ensures)
    (left_more c.args.ends.now (done_of c.args.progress.now) c.loop-place.place c.loop-place.first c.left_at.result c.loop-place.invariant c.left_at.ensures)

pub returns : goal.returns
returns g c =
    left_upto c.args.ends.now (done_of c.args.progress.now) c.loop-place.place (length c.args.ends.now) c.loop-place.first (omega (arith, c.loop-place-test.false)) c.loop-place.invariant
