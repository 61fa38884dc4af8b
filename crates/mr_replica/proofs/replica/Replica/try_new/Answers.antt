use Rattle.mr_replica.proofs.Replaying.{fresh_is_its_log}
use Rattle.mr_replica.proofs.replica.Replica.try_new.Goals as goal

pub invariant_of-result : goal.invariant_of-result
invariant_of-result g c =
    fresh_is_its_log g.K.Knowledge.form c.in_ok-core.core c.args.id c.args.filter c.args.event_limit c.in_ok-core.ensures.is_empty c.in_ok-core.ensures.knows_nothing
