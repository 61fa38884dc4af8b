use Rattle.std.proofs.Common.{rules, inl, inr, refl}
use Rattle.mr_live.proofs.Runnable.{both_run}
use Rattle.mr_live.proofs.live.run_plan.Goals as goal

pub meet-requires : goal.meet-requires
meet-requires g c = (search rules, (search rules, (search rules, (search rules, both_run c.args.plan c.in-Ok.nodes c.requires.can_run c.in-Ok.ensures.nodes))))

pub returns-in-Ok : goal.returns-in-Ok
returns-in-Ok g c = inl (c.in-Ok.nodes, c.in-Ok.ensures.nodes, c.meet.ensures)

pub returns-in-Err : goal.returns-in-Err
returns-in-Err g c = inr (c.in-Err.fault, refl, c.in-Err.ensures.fault, refl)
