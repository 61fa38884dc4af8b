use Rattle.std.proofs.Common.{subst}
use Rattle.mr_replica.proofs.Names.{IsDecided, State, answer_of}
use Rattle.mr_replica.proofs.Alike.{step_decided}
use Rattle.mr_replica.proofs.Replaying.{kept}
use Rattle.mr_replica.proofs.replica.Replica.step_then.Goals as goal

pub invariant_of-self : goal.invariant_of-self
invariant_of-self g c =
    kept g.K.Knowledge.form c.self.inside.core c.answer_event.new.self c.args.event (answer_of c.answer_event.result) c.self.invariant c.answer_event.ensures.steps

pub returns-clause-decided : goal.returns-clause-decided
returns-clause-decided g c =
    let answer = answer_of c.answer_event.result in
    subst (λ (z : State g.row.K.Denot). IsDecided g.K.Knowledge.form z c.args.event answer c.answer_event.new.self) c.self.view_is
    (step_decided g.K.Knowledge.form g.met.K.Knowledge.by_meaning c.self.inside.core c.args.event answer c.answer_event.new.self c.answer_event.ensures.steps)
