use Rattle.mr_world.proofs.Histories.WholeRuns.{world_runs, world_headline}
use Rattle.mr_world.proofs.laws.every_world.Goals as goal

pub returns-clause-run : goal.returns-clause-run
returns-clause-run g c filters w w' xs f run = (world_runs g.K.Knowledge.form filters w w' xs f run).0

pub returns-clause-agrees : goal.returns-clause-agrees
returns-clause-agrees g c filters w w' xs f run = (world_runs g.K.Knowledge.form filters w w' xs f run).1

pub returns-clause-headline : goal.returns-clause-headline
returns-clause-headline g c filters w w' xs f run = world_headline g.K.Knowledge.form filters w w' xs f run
