use Rattle.std.proofs.Common.{refl, ap, Ok}
use Rattle.mr_script.specs.Doing.Follows.{goes_on}
use Rattle.mr_script.proofs.Following.{ends_at}
use Rattle.mr_script.proofs.sync.run_sync.Goals as goal

pub returns-in_err-session : goal.returns-in_err-session
returns-in_err-session g c = ends_at _ _ _ c.from_residual.result c.from_residual.ensures.1 c.in_err-session.ensures

pub returns-in-Ok : goal.returns-in-Ok
returns-in-Ok g c = goes_on (rw c.in-Ok.is at c.in_ok-session.ensures) c.run_session.ensures

pub returns-in-Err : goal.returns-in-Err
returns-in-Err g c = goes_on (rw c.in-Err.is at c.in_ok-session.ensures) (ap Ok c.refused.ensures, refl)
