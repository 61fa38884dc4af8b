use Rattle.mr_world.proofs.Histories.Promises.{promises}
use Rattle.mr_world.proofs.promises.promise.Goals as goal

pub returns : goal.returns
returns g c w k = promises g.K.Knowledge.form w k
