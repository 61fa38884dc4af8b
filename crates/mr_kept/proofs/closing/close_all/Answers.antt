use Rattle.mr_kept.proofs.CloseLemmas.{closes_both, closes_some}
use Rattle.mr_kept.proofs.closing.close_all.Goals as goal

pub returns-then-not-sessions : goal.returns-then-not-sessions
returns-then-not-sessions g c = closes_some c.args.replica.now c.close_each.new.replica c.in_ok-sessions.sessions c.if-not-sessions.true c.in_ok-sessions.ensures

pub returns : goal.returns
returns g c =
    closes_both c.args.replica.now c.close_each.new.replica c.close_each-2.new.replica c.in_ok-sessions.sessions c.close_each-2.result c.if-not-sessions.false c.in_ok-sessions.ensures c.close_each-2.ensures
