use Rattle.mr_replica.proofs.One.{equal_if_alike, equal_by_log, equal_by_event}
use Rattle.mr_replica.proofs.laws.alike_are_one.Goals as goal

pub returns-clause-alike : goal.returns-clause-alike
returns-clause-alike g c = equal_if_alike g.K.Knowledge.form c.args.first.now c.args.second.now (rw (c.knowledge.ensures, c.knowledge-2.ensures) at c.one_value.ensures)

pub returns-clause-log : goal.returns-clause-log
returns-clause-log g c = equal_by_log g.K.Knowledge.form c.args.first.now c.args.second.now (rw (c.knowledge.ensures, c.knowledge-2.ensures) at c.one_value.ensures) g.met.K.Knowledge.by_meaning c.log-log.ensures.is_its_log c.log-other.ensures.is_its_log

pub returns-clause-event : goal.returns-clause-event
returns-clause-event g c = equal_by_event g.K.Knowledge.form c.args.first.now c.args.second.now (rw (c.knowledge.ensures, c.knowledge-2.ensures) at c.one_value.ensures) g.met.K.Knowledge.by_meaning
