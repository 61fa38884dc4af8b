use Rattle.std.proofs.Common.{Ok, ap}
use Rattle.mr_command.specs.Reading.Both.{goes_on}
use Rattle.mr_command.proofs.Readings.{ends_at}
use Rattle.mr_command.proofs.event.read_edit.Goals as goal

pub returns-in_err-message : goal.returns-in_err-message
returns-in_err-message g c = rw (c.in_ok-replica.ensures, c.in_ok-bases.ensures) (ends_at _ c.from_residual-in_err-message.result c.from_residual-in_err-message.ensures.1 c.in_err-message.ensures)

pub returns-in_err-id : goal.returns-in_err-id
returns-in_err-id g c = rw (c.in_ok-replica.ensures, c.in_ok-bases.ensures) (goes_on c.in_ok-message.ensures (ends_at _ c.from_residual-in_err-id.result c.from_residual-in_err-id.ensures.1 c.in_err-id.ensures))

pub returns-in_err-bases-2 : goal.returns-in_err-bases-2
returns-in_err-bases-2 g c = rw (c.in_ok-replica.ensures, c.in_ok-bases.ensures) (goes_on c.in_ok-message.ensures (goes_on c.in_ok-id.ensures (ends_at _ c.from_residual-in_err-bases-2.result c.from_residual-in_err-bases-2.ensures.1 c.in_err-bases-2.ensures)))

pub returns-in_err-message-2 : goal.returns-in_err-message-2
returns-in_err-message-2 g c = rw (c.in_ok-replica.ensures, c.in_ok-bases.ensures) (goes_on c.in_ok-message.ensures (goes_on c.in_ok-id.ensures (goes_on c.in_ok-bases-2.ensures (ends_at _ c.from_residual-in_err-message-2.result c.from_residual-in_err-message-2.ensures.1 c.in_err-message-2.ensures))))

pub returns : goal.returns
returns g c = rw (c.in_ok-replica.ensures, c.in_ok-bases.ensures) (goes_on c.in_ok-message.ensures (goes_on c.in_ok-id.ensures (goes_on c.in_ok-bases-2.ensures (goes_on c.in_ok-message-2.ensures (ap (λ e. Ok e) c.by.ensures)))))
