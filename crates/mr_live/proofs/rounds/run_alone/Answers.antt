use Rattle.mr_live.proofs.Meeting.{ran_alone}
use Rattle.mr_live.proofs.rounds.run_alone.Goals as goal

pub returns : goal.returns
returns g c =
    ran_alone g.K.Knowledge.form c.args.plan c.in-Ok.replica c.in_ok-links.links c.run.result (record { is = c.in-Ok.ensures.is_empty; knows_nothing = c.in-Ok.ensures.knows_nothing }) c.in_ok-links.ensures c.run.ensures
