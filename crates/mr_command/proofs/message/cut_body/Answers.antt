use Rattle.std.proofs.Common.{◌∙◌, sym, drop}
use Rattle.mr_command.proofs.Cut.{subject-found, body-found, subject-none, body-none}
use Rattle.mr_command.proofs.message.cut_body.Goals as goal

pub returns-in-Some-clause-subject : goal.returns-in-Some-clause-subject
returns-in-Some-clause-subject c =
    let at = c.in-Some.ensures.cases in
    at.3 ∙ sym (subject-found c.args.text.now at.0 (drop at.1 c.args.text.now) at.2.0 at.2.1.split)

pub returns-in-Some-clause-body : goal.returns-in-Some-clause-body
returns-in-Some-clause-body c =
    let at = c.in-Some.ensures.cases in
    at.4 ∙ sym (body-found c.args.text.now at.0 (drop at.1 c.args.text.now) at.2.0 at.2.1.split)

pub returns-in-None-clause-subject : goal.returns-in-None-clause-subject
returns-in-None-clause-subject c = sym (subject-none c.args.text.now c.in-None.ensures.cases)

pub returns-in-None-clause-body : goal.returns-in-None-clause-body
returns-in-None-clause-body c = sym (body-none c.args.text.now c.in-None.ensures.cases)
