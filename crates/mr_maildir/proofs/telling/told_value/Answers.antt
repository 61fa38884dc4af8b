use Rattle.std.proofs.Common.{◌≡◌, ◌&&◌, true, refl, sym, ap, ◌∙◌}
use Rattle.mr_maildir.proofs.Names.{and_from, and_parts, false≢true}
use Rattle.mr_maildir.specs.Telling.{is_shown_by, marks_eq, told_marks}
use Rattle.mr_maildir.proofs.TellingLemmas.{marks_same, marks_self, read_is}
use Rattle.mr_maildir.proofs.telling.told_value.Goals as goal

pub returns-then-branch-clause-told : goal.returns-then-branch-clause-told
returns-then-branch-clause-told c =
    let both = sym c.in_ok-is_told.ensures ∙ c.if-branch.true in
    marks_same (told_marks c.args.own c.in_ok-value.value c.args.labels.now c.args.flags) c.args.marks.now
    (and_parts (is_shown_by c.in_ok-value.value c.args.labels.now c.args.flags) (marks_eq (told_marks c.args.own c.in_ok-value.value c.args.labels.now c.args.flags) c.args.marks.now) both).1

pub returns-then-branch-clause-whole : goal.returns-then-branch-clause-whole
returns-then-branch-clause-whole c = λ value is shown told.
    read_is c.args.own value c.args.marks.now c.in_ok-value.value c.args.labels.now c.args.flags is shown told c.in_ok-value.ensures.none c.in_ok-value.ensures.some

pub returns-else-branch-clause-whole : goal.returns-else-branch-clause-whole
returns-else-branch-clause-whole c = λ value is shown told.
    let same = read_is c.args.own value c.args.marks.now c.in_ok-value.value c.args.labels.now c.args.flags is shown told c.in_ok-value.ensures.none c.in_ok-value.ensures.some in
    let shows = ap (λ v. is_shown_by v c.args.labels.now c.args.flags) same ∙ shown in
    let tells = ap (λ v. marks_eq (told_marks c.args.own v c.args.labels.now c.args.flags) c.args.marks.now) same ∙ (ap (λ l. marks_eq l c.args.marks.now) told ∙ marks_self c.args.marks.now) in
    absurd (false≢true (sym c.if-branch.false ∙ (c.in_ok-is_told.ensures ∙ and_from (is_shown_by c.in_ok-value.value c.args.labels.now c.args.flags) (marks_eq (told_marks c.args.own c.in_ok-value.value c.args.labels.now c.args.flags) c.args.marks.now) shows tells)))
