use Rattle.std.proofs.Common.{[], IfSome}
use Rattle.mr_live.proofs.Meeting.{ran_both}
use Rattle.mr_live.specs.Rounds.{RanFrom}
use Rattle.mr_live.proofs.rounds.run_in_scope.Goals as goal

pub returns : goal.returns
returns g c =
    let kept : IfSome c.join.result (λ new. RanFrom g.K.Knowledge.form c.in_ok-first.first.promise.node.value.replica [] c.in_ok-first.first.promise.node.value.links c.in_ok-first.first.promise.node.value.places new) = c.join.ensures in
    ran_both g.K.Knowledge.form (c.args.first.places, c.args.second.places) (c.args.first.replica, c.args.second.replica) c.args.first.links c.args.second.links c.join.result c.run_ready-second.result c.both.result c.requires.links (rw c.in_ok-first.ensures at kept) c.run_ready-second.ensures c.both.ensures
