use Rattle.std.proofs.Common.{inl, inr, refl}
use Rattle.mr_live.proofs.live.meet.Goals as goal

pub returns-in-Ok : goal.returns-in-Ok
returns-in-Ok g c = inl (_, _, c.in-Ok.ensures, c.write_told.ensures)

pub returns-in-Err : goal.returns-in-Err
returns-in-Err g c = inr (refl, refl)
