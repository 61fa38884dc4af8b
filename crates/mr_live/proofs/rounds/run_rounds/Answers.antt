use Rattle.mr_live.proofs.Meeting.{two_rounds}
use Rattle.mr_live.proofs.rounds.run_rounds.Goals as goal

pub returns : goal.returns
returns g c =
    two_rounds g.K.Knowledge.form (c.args.first, c.args.second) (c.in_ok-first.first, c.in_ok-second.second) c.run_both.result c.in_ok-first.ensures c.in_ok-second.ensures c.run_both.ensures
