use Rattle.mr_world.proofs.Running.Ports.{taken_so}
use Rattle.mr_world.proofs.outlet.Outlet.take.Goals as goal

pub returns : goal.returns
returns c =
    rw (← c.self.view_is)
    (taken_so c.self.inside.port c.take-taken.new.self c.self.inside.offered c.take-taken.result c.answer_of.result c.answer_of.ensures c.take-taken.ensures.first c.take-taken.ensures.empty c.take-taken.ensures.closed c.take-taken.ensures.others)
