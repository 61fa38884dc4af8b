use Rattle.std.proofs.Common.{rules, subst}
use Rattle.mr_sync.proofs.Names.{IsEndFault, Normal, State, fault_of_form, replica_of}
use Rattle.mr_sync.proofs.HelloLaws.{end_unfinished, end_untold}
use Rattle.mr_sync.proofs.TakeLaws.{passed_on}
use Rattle.mr_sync.proofs.ending.end.Goals as goal

pub returns-in_err-may_end-clause-fault : goal.returns-in_err-may_end-clause-fault
returns-in_err-may_end-clause-fault g c =
    let k = (replica_of c.args.kept.now).knowledge in
    let fault = c.in_err-may_end.field-0.0 in
    passed_on (IsEndFault c.args.turn c.args.talk.now k) fault c.from_residual.result c.from_residual.ensures.1 (end_unfinished c.args.turn c.args.talk.now k fault c.in_err-may_end.ensures)

pub returns-in_err-digest-clause-fault : goal.returns-in_err-digest-clause-fault
returns-in_err-digest-clause-fault g c =
    let e = c.in_err-digest.field-0.0 in
    passed_on (IsEndFault c.args.turn c.args.talk.now (replica_of c.args.kept.now).knowledge) (fault_of_form e) c.from_residual-in_err-digest.result c.from_residual-in_err-digest.ensures.1
    (subst (λ (s : State Normal). IsEndFault c.args.turn c.args.talk.now s.knowledge (fault_of_form e)) c.replica.ensures.is (end_untold c.args.turn c.args.talk.now c.replica.result.now.knowledge e (c.in_ok-may_end.ensures.0 (search rules)) c.in_err-digest.ensures.fault))
