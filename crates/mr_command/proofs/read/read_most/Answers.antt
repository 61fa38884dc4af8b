use Rattle.std.proofs.Common.{refl}
use Rattle.mr_command.specs.Reading.Both.{goes_on}
use Rattle.mr_command.proofs.Readings.{ends_at}
use Rattle.mr_command.proofs.read.read_most.Goals as goal

pub returns-in_err-read_number-in-Some : goal.returns-in_err-read_number-in-Some
returns-in_err-read_number-in-Some c = rw c.in-Some.is (ends_at _ c.from_residual.result c.from_residual.ensures.1 c.in_err-read_number-in-Some.ensures)

pub returns-in_ok-read_number-in-Some : goal.returns-in_ok-read_number-in-Some
returns-in_ok-read_number-in-Some c = rw c.in-Some.is (goes_on c.in_ok-read_number-in-Some.ensures refl)
