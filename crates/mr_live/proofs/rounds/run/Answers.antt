use Rattle.std.proofs.Common.{refl}
use Rattle.mr_live.proofs.Meeting.{ran_from}
use Rattle.mr_live.proofs.rounds.run.Goals as goal

pub returns-in-Ok : goal.returns-in-Ok
returns-in-Ok g c =
    ran_from g.K.Knowledge.form _ c.args.links c.args.capacity c.in-Ok.end c.in-Ok.field-0-1 c.in-Ok.field-0-2 c.had_memory-is_whole.result c.then_some.result refl refl c.in-Ok.ensures.ran c.in-Ok.ensures.capacity c.had_memory-is_whole.ensures c.then_some.ensures
