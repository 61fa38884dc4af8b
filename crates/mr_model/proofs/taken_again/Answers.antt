use Rattle.mr_model.proofs.Readings.{nothing_changes}
use Rattle.mr_model.proofs.taken_again.Goals as goal

pub returns : goal.returns
returns g c = record { nothing = nothing_changes }
