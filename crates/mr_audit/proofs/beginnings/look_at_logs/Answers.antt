use Rattle.std.proofs.Common.{subst, sym, arith}
use Rattle.std.proofs.lemmas.List.{take_all}
use Rattle.std.proofs.lemmas.List.Elements.{All-more, All-same}
use Rattle.mr_replica.specs.Replay.{IsItsLog}
use Rattle.mr_audit.proofs.beginnings.look_at_logs.Goals as goal

pub loop-end-preserved : goal.loop-end-preserved
loop-end-preserved g c =
    All-more (IsItsLog g.K.Knowledge.form) c.args.ends.now c.loop-end.end-index c.end-item.result c.loop-end-test.true c.loop-end.invariant
    (subst (IsItsLog g.K.Knowledge.form) c.end-item.is c.look_at_log.ensures)

pub returns : goal.returns
returns g c =
    All-same (IsItsLog g.K.Knowledge.form) _ _ (sym (take_all c.loop-end.end-index c.args.ends.now (omega (arith, c.loop-end-test.false)))) c.loop-end.invariant
