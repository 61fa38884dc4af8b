use Rattle.mr_command.specs.Reading.Both.{goes_on}
use Rattle.mr_command.proofs.Readings.{ends_at}
use Rattle.mr_command.proofs.shape.read_alone.Goals as goal

pub returns-in_err-replica : goal.returns-in_err-replica
returns-in_err-replica g c = ends_at _ c.from_residual.result c.from_residual.ensures.1 c.in_err-replica.ensures

pub returns : goal.returns
returns g c = goes_on c.in_ok-replica.ensures c.read_replica.ensures
