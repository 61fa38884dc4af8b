use Rattle.mr_world.proofs.Running.Stepped.{fulfils_step}
use Rattle.mr_world.proofs.member.Member.step.Goals as goal

pub returns : goal.returns
returns g c =
    rw (← c.self.view_is)
    (fulfils_step g.K.Knowledge.form (record { replica = c.self.inside.replica; indexer = c.self.inside.indexer; notifier = c.self.inside.notifier }) c.step_replica.new.replica c.args.pools.now c.step_replica.new.pools c.args.event c.step_replica.result c.step_replica.ensures)
