use Rattle.mr_model.proofs.Telling.{order_holds, step_tells}
use Rattle.mr_model.proofs.feed_tells.Goals as goal

pub returns-clause-order : goal.returns-clause-order
returns-clause-order g c = order_holds

pub returns-clause-step : goal.returns-clause-step
returns-clause-step g c = step_tells
