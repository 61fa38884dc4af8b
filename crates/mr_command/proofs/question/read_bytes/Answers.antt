use Rattle.std.proofs.Common.{refl}
use Rattle.mr_command.specs.Reading.Both.{goes_on}
use Rattle.mr_command.proofs.Readings.{ends_at}
use Rattle.mr_command.proofs.question.read_bytes.Goals as goal

pub returns-in_err-frame : goal.returns-in_err-frame
returns-in_err-frame g c = ends_at _ c.from_residual.result c.from_residual.ensures.1 c.in_err-frame.ensures

pub returns-in_err-pool : goal.returns-in_err-pool
returns-in_err-pool g c = goes_on c.in_ok-frame.ensures (ends_at _ c.from_residual-in_err-pool.result c.from_residual-in_err-pool.ensures.1 c.in_err-pool.ensures)

pub returns-in_err-number : goal.returns-in_err-number
returns-in_err-number g c = goes_on c.in_ok-frame.ensures (goes_on c.in_ok-pool.ensures (ends_at _ c.from_residual-in_err-number.result c.from_residual-in_err-number.ensures.1 c.in_err-number.ensures))

pub returns : goal.returns
returns g c = goes_on c.in_ok-frame.ensures (goes_on c.in_ok-pool.ensures (goes_on c.in_ok-number.ensures refl))
