use Rattle.mr_model.proofs.Readings.{knows_downward}
use Rattle.mr_model.proofs.knowledge.Goals as goal

pub returns : goal.returns
returns g c = record { downward = knows_downward }
