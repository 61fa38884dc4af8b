use Rattle.std.proofs.Common.{refl}
use Rattle.mr_command.specs.Reading.Both.{goes_on}
use Rattle.mr_command.proofs.Readings.{ends_at}
use Rattle.mr_command.proofs.shape.read_two.Goals as goal

pub returns-in_err-replica : goal.returns-in_err-replica
returns-in_err-replica g c = ends_at _ c.from_residual.result c.from_residual.ensures.1 c.in_err-replica.ensures

pub returns-in_err-id : goal.returns-in_err-id
returns-in_err-id g c = goes_on {x = (c.in_ok-replica.replica.now, c.in_ok-replica.second.now)} c.in_ok-replica.ensures (ends_at _ c.from_residual-in_err-id.result c.from_residual-in_err-id.ensures.1 c.in_err-id.ensures)

pub returns-in_err-second : goal.returns-in_err-second
returns-in_err-second g c = goes_on {x = (c.in_ok-replica.replica.now, c.in_ok-replica.second.now)} c.in_ok-replica.ensures (goes_on c.in_ok-id.ensures (ends_at _ c.from_residual-in_err-second.result c.from_residual-in_err-second.ensures.1 (c.in_ok-replica.second, c.in_err-second.ensures, refl)))

pub returns : goal.returns
returns g c = goes_on {x = (c.in_ok-replica.replica.now, c.in_ok-replica.second.now)} c.in_ok-replica.ensures (goes_on c.in_ok-id.ensures (goes_on (c.in_ok-replica.second, c.in_ok-second.ensures, refl) refl))
