use Rattle.mr_model.proofs.CheckSound.{check_sound}
use Rattle.mr_model.proofs.checked_run.Goals as goal

pub returns : goal.returns
returns g' c' = record { run = λ s c h law test. check_sound s c law h test }
