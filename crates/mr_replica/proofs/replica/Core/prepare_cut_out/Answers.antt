use Rattle.mr_replica.proofs.Preparing.{cut_out_prepared}
use Rattle.mr_replica.proofs.replica.Core.prepare_cut_out.Goals as goal

pub returns : goal.returns
returns g c = cut_out_prepared g.K.Knowledge.form c.args.self.now c.args.stream c.in_ok-check_cut_out.ensures
