use Rattle.std.proofs.Common.{subst, sym, arith}
use Rattle.mr_settle.proofs.Names.{All-more, All-same, IsOneInWorld, take_all}
use Rattle.mr_settle.proofs.join.compare.Goals as goal

pub loop-end-preserved : goal.loop-end-preserved
loop-end-preserved g c =
    All-more (IsOneInWorld g.K.Knowledge.form c.args.world.now) c.args.ends.now c.loop-end.end-index c.end-item.result c.loop-end-test.true c.loop-end.invariant
    (subst (IsOneInWorld g.K.Knowledge.form c.args.world.now) c.end-item.is c.compare_one.ensures)

pub returns : goal.returns
returns g c =
    All-same (IsOneInWorld g.K.Knowledge.form c.args.world.now) _ _ (sym (take_all c.loop-end.end-index c.args.ends.now (omega (arith, c.loop-end-test.false)))) c.loop-end.invariant
