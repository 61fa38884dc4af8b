use Rattle.std.proofs.Common.{◌≡◌, ◌≤◌, true, length, map, drop, sym, ap, ◌∙◌}
use Rattle.mr_maildir.specs.inner.Counts.{is_run, pair_words}
use Rattle.mr_maildir.proofs.CountsLemmas.{item_read, own_read, some_words, told_words}
use Rattle.mr_maildir.proofs.counts.read_counts_line.Goals as goal

pub read_marks-requires-in-None-clause-from : goal.read_marks-requires-in-None-clause-from
read_marks-requires-in-None-clause-from c = some_words c.args.line.now c.deref-in-None.result.now (ap (map (λ word. word.now)) c.deref-in-None.ensures.value ∙ c.in_ok-words.ensures)

pub returns-in-Some-clause-whole : goal.returns-in-Some-clause-whole
returns-in-Some-clause-whole c = λ item run is runs some line.
    let told = told_words c.args.own item run c.args.line.now c.deref.result.now is runs (ap (map (λ word. word.now)) c.deref.ensures.value ∙ c.in_ok-words.ensures) line in
    let read = item_read c.args.own item c.in-Some.item run _ _ is runs told c.in-Some.ensures.spelled c.in-Some.ensures.whole in
    let here : is_run c.in-Some.item run ≡ true = ap (λ i. is_run i run) read.0 ∙ runs in
    let same = c.deref-in-Some.ensures.value ∙ sym c.deref.ensures.value in
    c.read_marks.ensures.whole run here (ap (λ ws. map (λ word. word.now) (drop 3 ws)) same ∙ read.1)

pub returns-clause-whole : goal.returns-clause-whole
returns-clause-whole c = λ item run is runs some line.
    let told = told_words c.args.own item run c.args.line.now c.deref.result.now is runs (ap (map (λ word. word.now)) c.deref.ensures.value ∙ c.in_ok-words.ensures) line in
    let read = own_read c.args.own item run _ is told (λ other back named same. let found = c.in-None.ensures.whole other back named same in cc) in
    let here : is_run c.args.own run ≡ true = ap (λ i. is_run i run) read.0 ∙ runs in
    let same = c.deref-in-None.ensures.value ∙ sym c.deref.ensures.value in
    c.read_marks-in-None.ensures.whole run here (ap (λ ws. map (λ word. word.now) (drop 1 ws)) same ∙ read.1)
