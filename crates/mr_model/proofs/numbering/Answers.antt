use Rattle.mr_model.proofs.Readings.{numbering_holds}
use Rattle.mr_model.proofs.numbering.Goals as goal

pub returns : goal.returns
returns g c = record { without_gap = numbering_holds }
