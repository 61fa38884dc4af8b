use Rattle.mr_script.specs.Doing.Follows.{goes_on, ends}
use Rattle.mr_script.proofs.sync.run_stream.Goals as goal

pub returns-in-Ok : goal.returns-in-Ok
returns-in-Ok g c = goes_on c.in-Ok.ensures c.close.ensures

pub returns-in-Err : goal.returns-in-Err
returns-in-Err g c = ends c.in-Err.ensures
