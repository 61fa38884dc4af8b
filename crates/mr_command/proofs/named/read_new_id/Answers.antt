use Rattle.std.proofs.Common.{◌∙◌, ap, not, sym, refl}
use Rattle.mr_command.specs.Reading.Both.{goes_on}
use Rattle.mr_command.proofs.Readings.{choose-true, choose-false, ends_at}
use Rattle.mr_command.proofs.named.read_new_id.Goals as goal

pub returns-in_err-id : goal.returns-in_err-id
returns-in_err-id g c = ends_at _ c.from_residual.result c.from_residual.ensures.1 c.in_err-id.ensures

pub returns-then-has_replica : goal.returns-then-has_replica
returns-then-has_replica g c = goes_on c.in_ok-id.ensures (choose-false _ _ _ _ (ap not (sym c.has_replica.ensures ∙ c.if-has_replica.true)) refl)

pub returns-else-has_replica : goal.returns-else-has_replica
returns-else-has_replica g c = goes_on c.in_ok-id.ensures (choose-true _ _ _ _ (ap not (sym c.has_replica.ensures ∙ c.if-has_replica.false)) refl)
