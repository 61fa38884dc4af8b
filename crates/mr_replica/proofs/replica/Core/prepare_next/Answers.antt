use Rattle.mr_replica.proofs.Preparing.{next_prepared}
use Rattle.mr_replica.proofs.replica.Core.prepare_next.Goals as goal

pub returns : goal.returns
returns g c = next_prepared g.K.Knowledge.form c.args.self.now c.args.stream c.in_ok-given.given.record c.in_ok-given.given.onward c.in_ok-given.ensures c.in_ok-check_next.ensures
