use Rattle.std.proofs.Common.{map, ap, ◌∙◌}
use Rattle.mr_maildir.proofs.MailTextLemmas.{front_lines, some_lines}
use Rattle.mr_maildir.proofs.mail_text.read_told.Goals as goal

pub returns-in-Some-clause-whole : goal.returns-in-Some-clause-whole
returns-in-Some-clause-whole c = λ told are is.
    c.read_lines.ensures.whole told are (front_lines c.args.own told c.args.text.now c.deref.result.now c.in-Some.lines.now c.in-Some.field-0-0.now are is (ap (map (λ line. line.now)) c.deref.ensures.value ∙ c.in_ok-lines.ensures) c.in-Some.ensures.cases.0)

pub returns-clause-whole : goal.returns-clause-whole
returns-clause-whole c = λ told are is. some_lines c.args.text.now c.deref.result.now (ap (map (λ line. line.now)) c.deref.ensures.value ∙ c.in_ok-lines.ensures) c.in-None.ensures.cases
