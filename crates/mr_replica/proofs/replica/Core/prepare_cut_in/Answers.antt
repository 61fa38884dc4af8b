use Rattle.mr_replica.proofs.Preparing.{cut_in_prepared}
use Rattle.mr_replica.proofs.replica.Core.prepare_cut_in.Goals as goal

pub returns : goal.returns
returns g c = cut_in_prepared g.K.Knowledge.form c.args.self.now c.args.session c.in_ok-check_cut_in.ensures
