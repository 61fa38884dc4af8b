use Rattle.mr_replica.proofs.Replaying.{kept, replay_replays, replay_refuses, replay_logs, replay_is_its_log, replay_same, replay_for_memory}
use Rattle.mr_replica.proofs.replica.Replica.replay.Goals as goal

pub returns-in-Ok-clause-replayed : goal.returns-in-Ok-clause-replayed
returns-in-Ok-clause-replayed g c =
    replay_replays g.K.Knowledge.form c.args.id c.args.filter c.args.event_limit c.in-Ok.replica (record { is_empty = c.in-Ok.ensures.is_empty; knows_nothing = c.in-Ok.ensures.knows_nothing }) c.args.events.items c.take_all.result c.take_all.ensures.ok

pub returns-in-Ok-clause-refused : goal.returns-in-Ok-clause-refused
returns-in-Ok-clause-refused g c =
    replay_refuses g.K.Knowledge.form c.args.id c.args.filter c.args.event_limit c.in-Ok.replica (record { is_empty = c.in-Ok.ensures.is_empty; knows_nothing = c.in-Ok.ensures.knows_nothing }) c.args.events.items c.take_all.result c.take_all.ensures.err

pub returns-in-Ok-clause-log : goal.returns-in-Ok-clause-log
returns-in-Ok-clause-log g c =
    replay_logs g.K.Knowledge.form c.args.id c.args.filter c.args.event_limit c.in-Ok.replica (record { is_empty = c.in-Ok.ensures.is_empty; knows_nothing = c.in-Ok.ensures.knows_nothing }) c.args.events.items c.take_all.result c.take_all.ensures.ok

pub returns-in-Ok-clause-same : goal.returns-in-Ok-clause-same
returns-in-Ok-clause-same g c =
    replay_same g.K.Knowledge.form c.args.id c.args.filter c.args.event_limit c.in-Ok.replica (record { is_empty = c.in-Ok.ensures.is_empty; knows_nothing = c.in-Ok.ensures.knows_nothing }) c.args.events.items c.take_all.result c.take_all.ensures.ok g.met.K.Knowledge.by_meaning

pub returns-in-Ok-clause-for_memory : goal.returns-in-Ok-clause-for_memory
returns-in-Ok-clause-for_memory g c =
    replay_for_memory g.K.Knowledge.form c.args.id c.args.filter c.args.event_limit c.in-Ok.replica (record { is_empty = c.in-Ok.ensures.is_empty; knows_nothing = c.in-Ok.ensures.knows_nothing }) c.args.events.items c.take_all.result c.take_all.ensures.err g.met.K.Knowledge.by_meaning

pub returns-in-Ok-clause-is_its_log : goal.returns-in-Ok-clause-is_its_log
returns-in-Ok-clause-is_its_log g c =
    replay_is_its_log g.K.Knowledge.form c.args.id c.args.filter c.args.event_limit c.in-Ok.replica (record { is_empty = c.in-Ok.ensures.is_empty; knows_nothing = c.in-Ok.ensures.knows_nothing }) c.args.events.items c.take_all.result c.take_all.ensures.ok

pub returns-in-Ok-clause-stays_its_log : goal.returns-in-Ok-clause-stays_its_log
returns-in-Ok-clause-stays_its_log g c = kept g.K.Knowledge.form

pub returns-in-Err-clause-stays_its_log : goal.returns-in-Err-clause-stays_its_log
returns-in-Err-clause-stays_its_log g c = kept g.K.Knowledge.form
