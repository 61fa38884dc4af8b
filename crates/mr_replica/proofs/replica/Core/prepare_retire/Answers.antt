use Rattle.mr_replica.proofs.Preparing.{retire_prepared}
use Rattle.mr_replica.proofs.replica.Core.prepare_retire.Goals as goal

pub returns : goal.returns
returns g c = retire_prepared g.K.Knowledge.form c.args.self.now c.in_ok-check_retire.ensures
