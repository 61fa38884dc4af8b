use Rattle.std.proofs.Common.{refl}
use Rattle.mr_script.specs.Doing.Follows.{goes_on}
use Rattle.mr_script.proofs.Following.{ends_at}
use Rattle.mr_script.proofs.sync.take_record.Goals as goal

pub returns-in_err-told : goal.returns-in_err-told
returns-in_err-told g c = ends_at _ _ _ c.from_residual.result c.from_residual.ensures.1 c.in_err-told.ensures

pub returns-in-Ok : goal.returns-in-Ok
returns-in-Ok g c = goes_on (rw c.in-Ok.is at c.in_ok-told.ensures) c.receive.ensures

pub returns-in-Err : goal.returns-in-Err
returns-in-Err g c = goes_on (rw c.in-Err.is at c.in_ok-told.ensures) (refl, refl)
