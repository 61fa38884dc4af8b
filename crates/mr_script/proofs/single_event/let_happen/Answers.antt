use Rattle.mr_script.proofs.OneEvent.{met_noted, prevented}
use Rattle.mr_script.proofs.single_event.let_happen.Goals as goal

pub returns-in-Ok : goal.returns-in-Ok
returns-in-Ok g c = met_noted g.K.Knowledge.form c.args.world.now c.happen.new.self c.args.event c.in-Ok.ensures.meets

pub returns-in-Err : goal.returns-in-Err
returns-in-Err g c = let m = c.in-Err.ensures.meets in (rw c.stop_fault.ensures (prevented g.K.Knowledge.form c.args.world.now c.args.event c.in-Err.fault m.0), m.1)
