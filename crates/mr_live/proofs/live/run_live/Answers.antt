use Rattle.std.proofs.Common.{Ok}
use Rattle.mr_live.proofs.Ends.{plan_not_read}
use Rattle.mr_live.proofs.live.run_live.Goals as goal

pub returns-in-Ok-clause-ends : goal.returns-in-Ok-clause-ends
returns-in-Ok-clause-ends g c = (Ok c.in-Ok.plan, c.in-Ok.ensures.asks, (c.in-Ok.ensures.can_run, c.run_plan.ensures))

pub returns-in-Ok-clause-too_long : goal.returns-in-Ok-clause-too_long
returns-in-Ok-clause-too_long g c = λ is. absurd (plan_not_read g.K.Knowledge.form c.in-Ok.plan c.run_plan.result _ _ c.run_plan.ensures is)
