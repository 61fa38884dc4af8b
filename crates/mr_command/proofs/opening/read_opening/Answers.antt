use Rattle.std.proofs.Common.{◌∙◌, sym, refl}
use Rattle.mr_command.specs.Reading.Both.{goes_on}
use Rattle.mr_command.proofs.Readings.{choose-true, choose-false, ends_at}
use Rattle.mr_command.proofs.opening.read_opening.Goals as goal

pub returns-in_err-words : goal.returns-in_err-words
returns-in_err-words g c = ends_at _ c.from_residual.result c.from_residual.ensures.1 c.in_err-words.ensures

pub returns-then-is_opening : goal.returns-then-is_opening
returns-then-is_opening g c = goes_on c.in_ok-words.ensures (choose-true _ _ _ _ (sym c.is_opening.ensures ∙ c.if-is_opening.true) c.read.ensures)

pub returns-else-is_opening : goal.returns-else-is_opening
returns-else-is_opening g c = goes_on c.in_ok-words.ensures (choose-false _ _ _ _ (sym c.is_opening.ensures ∙ c.if-is_opening.false) refl)
