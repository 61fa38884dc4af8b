use Rattle.std.proofs.Common.{refl}
use Rattle.mr_command.specs.Reading.Both.{goes_on}
use Rattle.mr_command.proofs.Readings.{ends_at}
use Rattle.mr_command.proofs.opening.SpecWords.read.Goals as goal

pub returns-in_err-id : goal.returns-in_err-id
returns-in_err-id g c = rw (← c.self.view_is) (ends_at _ c.from_residual.result c.from_residual.ensures.1 c.in_err-id.ensures)

pub returns-in_err-event_limit : goal.returns-in_err-event_limit
returns-in_err-event_limit g c = rw (← c.self.view_is) (goes_on c.in_ok-id.ensures (ends_at _ c.from_residual-in_err-event_limit.result c.from_residual-in_err-event_limit.ensures.1 c.in_err-event_limit.ensures))

pub returns-in_err-capacity : goal.returns-in_err-capacity
returns-in_err-capacity g c = rw (← c.self.view_is) (goes_on c.in_ok-id.ensures (goes_on c.in_ok-event_limit.ensures (ends_at _ c.from_residual-in_err-capacity.result c.from_residual-in_err-capacity.ensures.1 c.in_err-capacity.ensures)))

pub returns-in_err-filter : goal.returns-in_err-filter
returns-in_err-filter g c = rw (← c.self.view_is) (goes_on c.in_ok-id.ensures (goes_on c.in_ok-event_limit.ensures (goes_on c.in_ok-capacity.ensures (ends_at _ c.from_residual-in_err-filter.result c.from_residual-in_err-filter.ensures.1 c.in_err-filter.ensures))))

pub returns : goal.returns
returns g c = rw (← c.self.view_is) (goes_on c.in_ok-id.ensures (goes_on c.in_ok-event_limit.ensures (goes_on c.in_ok-capacity.ensures (goes_on c.in_ok-filter.ensures refl))))
