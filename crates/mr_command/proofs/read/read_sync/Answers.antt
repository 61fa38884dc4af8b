use Rattle.std.proofs.Common.{refl}
use Rattle.mr_command.proofs.Names.{goes_on, option_copied}
use Rattle.mr_command.proofs.Readings.{ends_at}
use Rattle.mr_command.proofs.read.read_sync.Goals as goal

pub returns-in_err-target : goal.returns-in_err-target
returns-in_err-target g c = ends_at _ c.from_residual.result c.from_residual.ensures.1 c.in_err-target.ensures

pub returns-in_err-target-2 : goal.returns-in_err-target-2
returns-in_err-target-2 g c = goes_on {x = (c.in_ok-target.target.now, c.in_ok-target.source.now, option_copied c.in_ok-target.most)} c.in_ok-target.ensures (ends_at _ c.from_residual-in_err-target-2.result c.from_residual-in_err-target-2.ensures.1 c.in_err-target-2.ensures)

pub returns-in_err-source : goal.returns-in_err-source
returns-in_err-source g c = goes_on {x = (c.in_ok-target.target.now, c.in_ok-target.source.now, option_copied c.in_ok-target.most)} c.in_ok-target.ensures (goes_on c.in_ok-target-2.ensures (ends_at _ c.from_residual-in_err-source.result c.from_residual-in_err-source.ensures.1 c.in_err-source.ensures))

pub returns-in_err-most : goal.returns-in_err-most
returns-in_err-most g c = goes_on {x = (c.in_ok-target.target.now, c.in_ok-target.source.now, option_copied c.in_ok-target.most)} c.in_ok-target.ensures (goes_on c.in_ok-target-2.ensures (goes_on c.in_ok-source.ensures (ends_at _ c.from_residual-in_err-most.result c.from_residual-in_err-most.ensures.1 c.in_err-most.ensures)))

pub returns : goal.returns
returns g c = goes_on {x = (c.in_ok-target.target.now, c.in_ok-target.source.now, option_copied c.in_ok-target.most)} c.in_ok-target.ensures (goes_on c.in_ok-target-2.ensures (goes_on c.in_ok-source.ensures (goes_on c.in_ok-most.ensures refl)))
