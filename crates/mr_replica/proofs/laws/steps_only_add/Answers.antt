use Rattle.mr_replica.proofs.Replaying.{step_feed, step_push_out_feed, step_log, step_setting}
use Rattle.mr_replica.proofs.laws.steps_only_add.Goals as goal

pub returns-clause-feed : goal.returns-clause-feed
returns-clause-feed g c = step_feed g.K.Knowledge.form

pub returns-clause-push_out_feed : goal.returns-clause-push_out_feed
returns-clause-push_out_feed g c = step_push_out_feed g.K.Knowledge.form

pub returns-clause-log : goal.returns-clause-log
returns-clause-log g c = step_log g.K.Knowledge.form

pub returns-clause-setting : goal.returns-clause-setting
returns-clause-setting g c = step_setting g.K.Knowledge.form
