use Rattle.std.proofs.Common.{◌≡◌, ap}
use Rattle.mr_maildir.proofs.Names.{flat_map}
use Rattle.mr_maildir.specs.Counts.{ended}
use Rattle.mr_maildir.specs.Lines.{told_lines}
use Rattle.mr_maildir.proofs.mail_text.read_parts.Goals as goal

pub returns-in_default-clause-whole : goal.returns-in_default-clause-whole
returns-in_default-clause-whole c = λ parts is text.
    c.in_default.ensures.whole (record { digest = parts.digest; size = parts.size; lines = flat_map ended (told_lines c.args.own parts.told) }) (record { digest_in = is.digest_in; size_in = is.size_in }) text

pub returns-in_default-2-clause-whole : goal.returns-in_default-2-clause-whole
returns-in_default-2-clause-whole c = λ parts is text.
    let head = c.in-Some.ensures.whole (record { digest = parts.digest; size = parts.size; lines = flat_map ended (told_lines c.args.own parts.told) }) (record { digest_in = is.digest_in; size_in = is.size_in }) text in
    rw c.in_default-2.is at (c.in_ok-told.ensures.whole parts.told is.told_in (ap (λ p. p.lines) head))

pub returns-clause-whole : goal.returns-clause-whole
returns-clause-whole c = λ parts is text.
    let head = c.in-Some.ensures.whole (record { digest = parts.digest; size = parts.size; lines = flat_map ended (told_lines c.args.own parts.told) }) (record { digest_in = is.digest_in; size_in = is.size_in }) text in
    let told = rw c.in-Some-2.is at (c.in_ok-told.ensures.whole parts.told is.told_in (ap (λ p. p.lines) head)) in
    λ i. record { digest = (head i).digest; size = (head i).size; told = told i }
