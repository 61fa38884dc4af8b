use Rattle.mr_world.proofs.Running.MemberPlaces.{place_found, place_there}
use Rattle.mr_world.proofs.Running.Happening.{no_places, not_done, happens, kept_frames, fulfilled_frames}
use Rattle.mr_world.proofs.answering.answer_task.Goals as goal

pub returns-in_default-clause-meets : goal.returns-in_default-clause-meets
returns-in_default-clause-meets g c =
    let x = place_there c.args.members.now.items c.args.event.replica c.args.place c.requires.place in
    rw c.reserve_places.ensures.answers
    (no_places g.K.Knowledge.form c.args.members.now.items c.args.place x.0 c.args.pools.now c.args.answers.now.items c.args.event x.1 c.reserve_places.new.pools c.args.task c.reserve_places.ensures.frames c.requires.task)

pub returns-in_default-clause-frames : goal.returns-in_default-clause-frames
returns-in_default-clause-frames g c = kept_frames c.args.pools.now c.reserve_places.new.pools c.reserve_places.ensures.frames c.requires.frames

pub returns-in-Ok-fulfil-clause-meets : goal.returns-in-Ok-fulfil-clause-meets
returns-in-Ok-fulfil-clause-meets g c =
    let pl = place_found c.args.members.now.items c.args.event.replica c.args.place c.index_mut-member.result.now c.requires.place c.index_mut-member.ensures.value in (
      c.in-Ok-fulfil.answer,
      happens g.K.Knowledge.form c.args.members.now.items c.args.place c.index_mut-member.result.now c.args.pools.now c.args.answers.now.items c.args.event pl c.reserve_places.new.pools c.args.task c.reserve_places.ensures.frames c.requires.task
          c.fulfil.new.self c.fulfil.new.pools _ c.in-Ok-fulfil.answer c.in-Ok-fulfil.ensures (rw c.reserve_places.ensures.answers at c.push_reserved.ensures.items),
    )

pub returns-in-Ok-fulfil-clause-frames : goal.returns-in-Ok-fulfil-clause-frames
returns-in-Ok-fulfil-clause-frames g c =
    fulfilled_frames g.K.Knowledge.form c.index_mut-member.result.now c.fulfil.new.self c.args.pools.now c.reserve_places.new.pools c.fulfil.new.pools c.args.task c.fulfil.result c.reserve_places.ensures.frames c.fulfil.ensures c.requires.frames

pub returns-in-Err-clause-meets : goal.returns-in-Err-clause-meets
returns-in-Err-clause-meets g c =
    let pl = place_found c.args.members.now.items c.args.event.replica c.args.place c.index_mut-member.result.now c.requires.place c.index_mut-member.ensures.value in
    rw c.reserve_places.ensures.answers
    (not_done g.K.Knowledge.form c.args.members.now.items c.args.place c.index_mut-member.result.now c.args.pools.now c.args.answers.now.items c.args.event pl c.reserve_places.new.pools c.args.task c.reserve_places.ensures.frames c.requires.task
    c.fulfil.new.self c.fulfil.new.pools c.in-Err.fault c.in-Err.ensures)

pub returns-in-Err-clause-frames : goal.returns-in-Err-clause-frames
returns-in-Err-clause-frames g c =
    fulfilled_frames g.K.Knowledge.form c.index_mut-member.result.now c.fulfil.new.self c.args.pools.now c.reserve_places.new.pools c.fulfil.new.pools c.args.task c.fulfil.result c.reserve_places.ensures.frames c.fulfil.ensures c.requires.frames
