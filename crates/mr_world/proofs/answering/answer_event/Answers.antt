use Rattle.std.proofs.Common.{sym}
use Rattle.mr_world.proofs.Running.Happening.{no_such_replica}
use Rattle.mr_world.proofs.answering.answer_event.Goals as goal

pub returns-in-None-clause-meets : goal.returns-in-None-clause-meets
returns-in-None-clause-meets g c =
    no_such_replica g.K.Knowledge.form c.args.members.now.items c.args.pools.now c.args.answers.now.items c.args.event (sym (rw c.deref.ensures.value at c.in-None.ensures))

pub answer_at-requires-clause-place : goal.answer_at-requires-clause-place
answer_at-requires-clause-place g c = sym (rw c.deref.ensures.value at c.in-Some.ensures)
