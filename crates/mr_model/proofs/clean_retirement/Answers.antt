use Rattle.mr_model.proofs.Theorem.{run_inv}
use Rattle.mr_model.proofs.clean_retirement.Goals as goal

pub returns : goal.returns
returns g c = record { no_push_outs = λ s h run. (run_inv s h run).core.clean }
