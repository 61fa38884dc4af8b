use Rattle.std.proofs.Common.{Ok, ap}
use Rattle.mr_command.specs.Reading.Both.{goes_on}
use Rattle.mr_command.proofs.Readings.{ends_at}
use Rattle.mr_command.proofs.event.read_part.Goals as goal

pub returns-in_err-replica : goal.returns-in_err-replica
returns-in_err-replica g c = ends_at _ c.from_residual.result c.from_residual.ensures.1 c.in_err-replica.ensures

pub returns-in_err-id : goal.returns-in_err-id
returns-in_err-id g c = goes_on {x = (c.in_ok-replica.replica.now, c.in_ok-replica.record.now, c.in_ok-replica.bytes.now)} c.in_ok-replica.ensures (ends_at _ c.from_residual-in_err-id.result c.from_residual-in_err-id.ensures.1 c.in_err-id.ensures)

pub returns-in_err-number : goal.returns-in_err-number
returns-in_err-number g c = goes_on {x = (c.in_ok-replica.replica.now, c.in_ok-replica.record.now, c.in_ok-replica.bytes.now)} c.in_ok-replica.ensures (goes_on c.in_ok-id.ensures (ends_at _ c.from_residual-in_err-number.result c.from_residual-in_err-number.ensures.1 c.in_err-number.ensures))

pub returns-in_err-bytes : goal.returns-in_err-bytes
returns-in_err-bytes g c = goes_on {x = (c.in_ok-replica.replica.now, c.in_ok-replica.record.now, c.in_ok-replica.bytes.now)} c.in_ok-replica.ensures (goes_on c.in_ok-id.ensures (goes_on c.in_ok-number.ensures (ends_at _ c.from_residual-in_err-bytes.result c.from_residual-in_err-bytes.ensures.1 c.in_err-bytes.ensures)))

pub returns : goal.returns
returns g c = goes_on {x = (c.in_ok-replica.replica.now, c.in_ok-replica.record.now, c.in_ok-replica.bytes.now)} c.in_ok-replica.ensures (goes_on c.in_ok-id.ensures (goes_on c.in_ok-number.ensures (goes_on c.in_ok-bytes.ensures (ap (λ e. Ok e) c.by.ensures))))
