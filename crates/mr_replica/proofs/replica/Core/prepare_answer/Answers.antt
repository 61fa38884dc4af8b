use Rattle.std.proofs.Common.{ℕ, ◌+◌, ap, ◌∙◌}
use Rattle.mr_replica.specs.State.{State}
use Rattle.mr_replica.proofs.Preparing.{answer_prepared}
use Rattle.mr_replica.proofs.replica.Core.prepare_answer.Goals as goal

pub returns : goal.returns
returns g c =
    answer_prepared g.K.Knowledge.form c.args.self.now c.args.ask.now c.in_ok-opening.opening (c.opened-stream.result + 1) c.in_ok-opening.ensures.ok
    (ap (λ (n : ℕ). n + 1) (c.opened-stream.ensures.value ∙ ap (λ (t : State g.row.K.Denot). t.streams.opened) c.self.view_is)) c.in_ok-check_answer.ensures
