use Rattle.mr_replica.proofs.Preparing.{release_prepared}
use Rattle.mr_replica.proofs.replica.Core.prepare_release.Goals as goal

pub returns : goal.returns
returns g c = release_prepared g.K.Knowledge.form c.args.self.now c.in_ok-entries.entries c.args.receipt.now c.in_ok-entries.ensures c.in_ok-check_release.ensures
