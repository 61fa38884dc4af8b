use Rattle.mr_replica.proofs.Preparing.{vouch_prepared}
use Rattle.mr_replica.proofs.replica.Core.prepare_vouch.Goals as goal

pub returns : goal.returns
returns g c = vouch_prepared g.K.Knowledge.form c.args.self.now c.args.version c.in_ok-receipt.receipt c.in_ok-receipt.ensures c.in_ok-check_vouch.ensures
