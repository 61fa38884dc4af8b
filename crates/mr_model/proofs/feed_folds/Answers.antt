use Rattle.mr_model.proofs.Theorem.{run_inv}
use Rattle.mr_model.proofs.feed_folds.Goals as goal

pub returns : goal.returns
returns g c = record { fold_is_store = λ s h run r v. ((run_inv s h run).core.fed r).told v }
