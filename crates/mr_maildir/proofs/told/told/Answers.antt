use Rattle.std.proofs.Common.{◌≡◌, None, sym, ap, ◌∙◌, rules}
use Rattle.mr_maildir.specs.Told.{told_by}
use Rattle.mr_maildir.proofs.ToldLemmas.{untold, told_here, told_later}
use Rattle.mr_maildir.proofs.told.told.Goals as goal

pub returns-in_err-line : goal.returns-in_err-line
returns-in_err-line c =
    let one = rw c.in_err-line.was at c.first_line.ensures.none in
    let nothing : told_by c.args.key.now c.args.lines.now ≡ None = c.loop-line.invariant.0 ∙ untold c.args.key.now c.loop-line.rest.now one in
    rw nothing (search rules)

pub returns-in-Some : goal.returns-in-Some
returns-in-Some c =
    let cut = rw c.in_ok-line.was at c.first_line.ensures.cut in
    let here = told_here c.args.key.now c.in_ok-line.line.now c.in_ok-line.more.now c.in-Some.value.now cut.1 (sym c.in-Some.ensures.value) in
    sym (c.loop-line.invariant.0 ∙ (ap (told_by c.args.key.now) cut.0 ∙ here))

pub loop-line-preserved : goal.loop-line-preserved
loop-line-preserved c =
    let cut = rw c.in_ok-line.was at c.first_line.ensures.cut in
    let later = told_later c.args.key.now c.in_ok-line.line.now c.in_ok-line.more.now cut.1 (sym c.in_default.ensures.value) in
    (c.loop-line.invariant.0 ∙ (ap (told_by c.args.key.now) cut.0 ∙ later), rw c.in_ok-line.was at c.first_line.ensures.text)
