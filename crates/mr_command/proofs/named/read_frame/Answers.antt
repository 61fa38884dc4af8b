use Rattle.std.proofs.Common.{◌∙◌, sym, refl}
use Rattle.mr_command.specs.Reading.Both.{goes_on}
use Rattle.mr_command.proofs.Readings.{choose-true, choose-false, ends_at}
use Rattle.mr_command.proofs.named.read_frame.Goals as goal

pub returns-in_err-number : goal.returns-in_err-number
returns-in_err-number g c = ends_at _ c.from_residual.result c.from_residual.ensures.1 c.in_err-number.ensures

pub returns-then-has_frame : goal.returns-then-has_frame
returns-then-has_frame g c = goes_on c.in_ok-number.ensures (choose-true _ _ _ _ (sym c.has_frame.ensures ∙ c.if-has_frame.true) refl)

pub returns-else-has_frame : goal.returns-else-has_frame
returns-else-has_frame g c = goes_on c.in_ok-number.ensures (choose-false _ _ _ _ (sym c.has_frame.ensures ∙ c.if-has_frame.false) refl)
