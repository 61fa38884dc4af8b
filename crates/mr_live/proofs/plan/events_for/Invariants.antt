use Rattle.std.proofs.Common.{◌≡◌, take}
use Rattle.mr_live.specs.Plan.{events_for}
use Rattle.mr_live.proofs.plan.events_for.Given as goal

abbrev pub invariant-loop-ask : goal.invariant-loop-ask
invariant-loop-ask l = l.events.items ≡ events_for l.fn.id (take l.ask-index l.fn.asked)
