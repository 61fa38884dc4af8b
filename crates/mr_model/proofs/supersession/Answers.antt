use Rattle.mr_model.proofs.Readings.{closure_holds, supersession_holds}
use Rattle.mr_model.proofs.supersession.Goals as goal

pub returns-clause-closure : goal.returns-clause-closure
returns-clause-closure g c = closure_holds

pub returns-clause-order : goal.returns-clause-order
returns-clause-order g c = supersession_holds
