use Rattle.std.proofs.Common.{Result, Ok, Err, refl, sym, subst, ap, ◌∙◌}
use Rattle.mr_replica.proofs.Names.{Refusal, Reply, Steps, answer_of, err_from_is_err_and}
use Rattle.mr_replica.proofs.Preparing.{may_apply, step_refused, step_for_memory, step_changed}
use Rattle.mr_replica.proofs.replica.Core.answer_event.Goals as goal

pub apply-requires : goal.apply-requires
apply-requires g c = may_apply g.K.Knowledge.form c.args.self.now c.args.event c.in_ok-reply.field-0 c.in_ok-reply.ensures

-- it was refused
pub returns-in_err-reply-clause-steps : goal.returns-in_err-reply-clause-steps
returns-in_err-reply-clause-steps g c =
    let form = g.K.Knowledge.form in
    let s = c.args.self.now in
    let p = err_from_is_err_and c.from_residual.result c.from_residual.ensures.1 in
    subst (λ (a : Result Reply Refusal). Steps form s c.args.event a s) (sym (ap answer_of (p.1 ∙ ap Err p.2))) (step_refused form s c.args.event c.in_err-reply.field-0.0 s c.in_err-reply.ensures refl)

-- there was no memory for what is made of the reply
pub returns-in_err-answer-clause-steps : goal.returns-in_err-answer-clause-steps
returns-in_err-answer-clause-steps g c =
    let form = g.K.Knowledge.form in
    let s = c.args.self.now in
    let p = err_from_is_err_and c.from_residual-in_err-answer.result c.from_residual-in_err-answer.ensures.1 in
    subst (λ (a : Result Reply Refusal). Steps form s c.args.event a s) (sym (ap answer_of (p.1 ∙ ap Err p.2))) (step_for_memory form s c.args.event c.in_ok-reply.field-0 c.in_ok-reply.ensures s refl)

-- there was none for the change
pub returns-in_err-apply-clause-steps : goal.returns-in_err-apply-clause-steps
returns-in_err-apply-clause-steps g c =
    let form = g.K.Knowledge.form in
    let s = c.args.self.now in
    let p = err_from_is_err_and c.from_residual-in_err-apply.result c.from_residual-in_err-apply.ensures.1 in
    subst (λ (a : Result Reply Refusal). Steps form s c.args.event a c.apply.new.self) (sym (ap answer_of (p.1 ∙ ap Err p.2))) (step_for_memory form s c.args.event c.in_ok-reply.field-0 c.in_ok-reply.ensures c.apply.new.self c.in_err-apply.ensures)

-- it was answered
pub returns-clause-steps : goal.returns-clause-steps
returns-clause-steps g c =
    let form = g.K.Knowledge.form in
    let s = c.args.self.now in
    subst (λ (r : Reply). Steps form s c.args.event (Ok r) c.apply.new.self) (sym c.in_ok-answer.ensures.reply) (step_changed form s c.args.event c.in_ok-reply.field-0 c.in_ok-reply.ensures c.apply.new.self c.in_ok-apply.ensures)
