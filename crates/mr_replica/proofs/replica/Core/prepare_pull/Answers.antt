use Rattle.mr_replica.proofs.Preparing.{pull_prepared}
use Rattle.mr_replica.proofs.replica.Core.prepare_pull.Goals as goal

pub returns : goal.returns
returns g c = pull_prepared g.K.Knowledge.form c.args.self.now c.in_ok-ask.ask c.in_ok-ask.ensures.ok c.in_ok-check_pull.ensures
