use Rattle.std.proofs.lemmas.Result.{IfOk-weaker}
use Rattle.mr_live.proofs.Ids.{ended_apart}
use Rattle.mr_live.proofs.live.run_nodes.Goals as goal

pub tell_both-requires : goal.tell_both-requires
tell_both-requires g c = record { apart = ended_apart g.K.Knowledge.form c.args.nodes c.in-Some.ended c.requires.can_run.apart c.in-Some.ensures }

pub returns-in-Some : goal.returns-in-Some
returns-in-Some g c =
    IfOk-weaker c.tell_both.result _ _ (λ told tells. record { ended = c.in-Some.ended; ran = c.in-Some.ensures; tells = tells }) c.tell_both.ensures
