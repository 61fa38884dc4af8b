use Rattle.mr_command.specs.Reading.Both.{goes_on}
use Rattle.mr_command.proofs.Readings.{ends_at}
use Rattle.mr_command.proofs.message.MessageWords.read.Goals as goal

pub returns-in_err-flags : goal.returns-in_err-flags
returns-in_err-flags c = ends_at _ c.from_residual.result c.from_residual.ensures.1 (rw (← c.self.view_is) c.in_err-flags.ensures)

pub returns-in_err-day : goal.returns-in_err-day
returns-in_err-day c = goes_on {x = c.in_ok-flags.flags} (rw (← c.self.view_is) c.in_ok-flags.ensures) (ends_at _ c.from_residual-in_err-day.result c.from_residual-in_err-day.ensures.1 (rw (← c.self.view_is) c.in_err-day.ensures))

pub returns : goal.returns
returns c = goes_on {x = c.in_ok-flags.flags} (rw (← c.self.view_is) c.in_ok-flags.ensures) (goes_on {x = c.in_ok-day.day} (rw (← c.self.view_is) c.in_ok-day.ensures) c.make.ensures)
