use Rattle.std.proofs.Common.{subst, arith, Option}
use Rattle.mr_settle.proofs.Names.{FindsAt, Ready, done_of, given_by}
use Rattle.mr_settle.proofs.ArriveLemmas.{rests_more}
use Rattle.mr_settle.proofs.ready.first_ready.Goals as goal

pub loop-place-preserved : goal.loop-place-preserved
loop-place-preserved g c =
    rests_more c.args.ends.now (given_by c.args.given.now) (done_of c.args.progress.now) c.args.from c.loop-place.place c.loop-place.invariant
    (subst (λ (o : Option Ready). FindsAt g.K.Knowledge.form c.args.ends.now (given_by c.args.given.now) (done_of c.args.progress.now) c.loop-place.place o) c.in-None.is c.in_ok-ready.ensures)

pub returns : goal.returns
returns g c = λ place low within. c.loop-place.invariant place low (omega (arith, within, c.loop-place-test.false))
