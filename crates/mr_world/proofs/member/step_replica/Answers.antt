use Rattle.std.proofs.Common.{rules}
use Rattle.mr_world.specs.inner.Given.{IsGivenBy}
use Rattle.mr_world.proofs.Running.Stepped.{replied_so, refused_so}
use Rattle.mr_world.proofs.member.step_replica.Goals as goal

pub returns-in-Ok : goal.returns-in-Ok
returns-in-Ok g c =
    let made : IsGivenBy c.in-Ok.reply c.in-Ok.given = search rules in
    replied_so g.K.Knowledge.form c.args.replica.now c.step_then.new.self c.args.pools.now c.put.new.self c.args.event c.in-Ok.reply c.in-Ok.given c.in-Ok.ensures.steps made c.put.ensures

pub returns-in-Err : goal.returns-in-Err
returns-in-Err g c = refused_so g.K.Knowledge.form c.args.replica.now c.step_then.new.self c.args.pools.now c.args.event c.in-Err.refusal c.refused.result c.in-Err.ensures.steps c.refused.ensures
