use Rattle.std.proofs.Common.{refl, ap, Ok}
use Rattle.mr_script.specs.Doing.Follows.{goes_on}
use Rattle.mr_script.proofs.Cuts.{event_then}
use Rattle.mr_script.proofs.Following.{ends_at}
use Rattle.mr_script.proofs.sync.run_session.Goals as goal

pub returns-in_err-stream : goal.returns-in_err-stream
returns-in_err-stream g c = ends_at _ _ _ c.from_residual.result c.from_residual.ensures.1 c.in_err-stream.ensures

pub returns-in-Ok : goal.returns-in-Ok
returns-in-Ok g c = goes_on (rw c.in-Ok.is at c.in_ok-stream.ensures) c.run_stream.ensures

pub returns-in_ok-let_happen-in-Err : goal.returns-in_ok-let_happen-in-Err
returns-in_ok-let_happen-in-Err g c = goes_on (rw c.in-Err.is at c.in_ok-stream.ensures) (event_then g.K.Knowledge.form _ (rw c.by.ensures at c.in_ok-let_happen-in-Err.ensures) (ap Ok c.refused.ensures, refl))

pub returns-in_err-let_happen-in-Err : goal.returns-in_err-let_happen-in-Err
returns-in_err-let_happen-in-Err g c =
    goes_on (rw c.in-Err.is at c.in_ok-stream.ensures) (ends_at _ _ _ c.from_residual-in_err-let_happen-in-Err.result c.from_residual-in_err-let_happen-in-Err.ensures.1 (rw c.by.ensures at c.in_err-let_happen-in-Err.ensures))
