use Rattle.mr_maildir.proofs.ReferenceLemmas.{value_behind, line_cut, line_written}
use Rattle.mr_maildir.proofs.reference.read_line.Goals as goal

pub returns-in_err-behind-clause-whole : goal.returns-in_err-behind-clause-whole
returns-in_err-behind-clause-whole c = λ value rest one is. absurd (rw c.in_err-behind.was at (value_behind c.args.key.now c.args.text.now _ c.behind.result c.behind.ensures.value is))

pub returns-clause-written : goal.returns-clause-written
returns-clause-written c = line_written c.args.text.now c.args.key.now _ c.first_line.result c.in_ok-behind.ensures.written c.first_line.ensures.cut

pub returns-clause-whole : goal.returns-clause-whole
returns-clause-whole c = λ value rest one is.
    let here = rw c.in_ok-behind.was at (value_behind c.args.key.now c.args.text.now _ c.behind.result c.behind.ensures.value is) in
    line_cut _ value rest c.first_line.result c.first_line.ensures.cut c.first_line.ensures.none one here
