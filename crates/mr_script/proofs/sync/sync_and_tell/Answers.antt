use Rattle.std.proofs.Common.{refl, ap, inl, inr, Ok}
use Rattle.std.proofs.lemmas.Result.{err_from_is_err_and}
use Rattle.mr_script.specs.Doing.Follows.{goes_on, ends}
use Rattle.mr_script.proofs.sync.sync_and_tell.Goals as goal

pub returns-in-Err : goal.returns-in-Err
returns-in-Err g c = ends c.in-Err.ensures

pub returns-in_err-sync_line-in-Ok : goal.returns-in_err-sync_line-in-Ok
returns-in_err-sync_line-in-Ok g c =
    let p = err_from_is_err_and c.from_residual.result c.from_residual.ensures.1 in
    goes_on c.in-Ok.ensures (rw (p.1, p.2) (inr refl), refl)

pub returns-in_ok-sync_line-in-Ok : goal.returns-in_ok-sync_line-in-Ok
returns-in_ok-sync_line-in-Ok g c = goes_on c.in-Ok.ensures (inl (ap Ok c.in_ok-sync_line-in-Ok.ensures), refl)
