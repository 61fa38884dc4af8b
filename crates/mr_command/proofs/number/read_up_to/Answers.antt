use Rattle.std.proofs.Common.{◌&&◌, nat_le, refl, arith}
use Rattle.mr_command.proofs.Names.{goes_on, nat_tests}
use Rattle.mr_command.proofs.Readings.{choose-true, choose-false, ends_at}
use Rattle.mr_command.proofs.number.read_up_to.Goals as goal

pub returns-in_err-number : goal.returns-in_err-number
returns-in_err-number c = ends_at _ c.from_residual.result c.from_residual.ensures.1 c.in_err-number.ensures

pub returns-then-number-from : goal.returns-then-number-from
returns-then-number-from c = goes_on c.in_ok-number.ensures (choose-true (nat_le 1 c.in_ok-number.number && nat_le c.in_ok-number.number c.args.most) _ _ _ (grind (arith, nat_tests)) refl)

pub returns-else-number-ge1 : goal.returns-else-number-ge1
returns-else-number-ge1 c = goes_on c.in_ok-number.ensures (choose-false (nat_le 1 c.in_ok-number.number && nat_le c.in_ok-number.number c.args.most) _ _ _ (grind (arith, nat_tests)) refl)
