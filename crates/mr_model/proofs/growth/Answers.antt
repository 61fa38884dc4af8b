use Rattle.mr_model.proofs.Readings.{run_grows}
use Rattle.mr_model.proofs.growth.Goals as goal

pub returns : goal.returns
returns g c = record { grows = run_grows }
