use Rattle.mr_world.proofs.Running.MemberPlaces.{place_there}
use Rattle.mr_world.proofs.Running.Happening.{no_task}
use Rattle.mr_world.proofs.answering.answer_at.Goals as goal

pub returns-in-Err-clause-meets : goal.returns-in-Err-clause-meets
returns-in-Err-clause-meets g c =
    let x = place_there c.args.members.now.items c.args.event.replica c.args.place c.requires.place in
    no_task g.K.Knowledge.form c.args.members.now.items c.args.place x.0 c.args.pools.now c.args.answers.now.items c.args.event x.1 c.in-Err.fault c.in-Err.ensures
