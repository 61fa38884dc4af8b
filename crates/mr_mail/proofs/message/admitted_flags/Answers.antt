use Rattle.std.proofs.Common.{◌≡◌, ◌≤◌, ◌<◌, length, true, false, refl, arith, string_bytes}
use Rattle.std.specs.List.{list_all}
use Rattle.std.proofs.lemmas.List.{length-map}
use Rattle.mr_mail.specs.Label.{is_label, texts_of, different_labels}
use Rattle.mr_mail.proofs.AdmitsLemmas.{first_fault_label, first_fault_labels, first_fault_flags, first_fault_none}
use Rattle.mr_mail.proofs.LabelLemmas.{list_all_of_texts, IsLabelSet_from}
use Rattle.mr_mail.proofs.message.admitted_flags.Goals as goal

pub returns-then-not-are_texts_of_labels-clause-fault : goal.returns-then-not-are_texts_of_labels-clause-fault
returns-then-not-are_texts_of_labels-clause-fault c =
    let bad : list_all is_label (texts_of c.args.labels.now.items) ≡ false = rw (list_all_of_texts c.args.labels.now.items) (grind arith) in
    first_fault_label c.args.from.now c.args.subject.now c.args.body.now (texts_of c.args.labels.now.items) c.args.flags c.in_ok-check_lengths.ensures.from_in c.in_ok-check_lengths.ensures.subject_in c.in_ok-check_lengths.ensures.body_in bad

pub returns-then-len-gt-MAX_LABELS-clause-fault : goal.returns-then-len-gt-MAX_LABELS-clause-fault
returns-then-len-gt-MAX_LABELS-clause-fault c =
    let each : list_all is_label (texts_of c.args.labels.now.items) ≡ true = rw (list_all_of_texts c.args.labels.now.items) (grind arith) in
    let many : 16 < different_labels (texts_of c.args.labels.now.items) = rw (← c.sort_once.ensures.count) (grind arith) in
    first_fault_labels c.args.from.now c.args.subject.now c.args.body.now (texts_of c.args.labels.now.items) c.args.flags c.in_ok-check_lengths.ensures.from_in c.in_ok-check_lengths.ensures.subject_in c.in_ok-check_lengths.ensures.body_in each many

pub returns-clause-labels_in : goal.returns-clause-labels_in
returns-clause-labels_in c =
    let each : list_all is_label (texts_of c.args.labels.now.items) ≡ true = rw (list_all_of_texts c.args.labels.now.items) (grind arith) in
    let few : length (texts_of c.sort_once.new.texts.items) ≤ 16 = rw (length-map c.sort_once.new.texts.items (λ text. string_bytes text)) (grind arith) in
    IsLabelSet_from (texts_of c.args.labels.now.items) _ c.sort_once.ensures.labels (c.sort_once.ensures.each each) few

pub returns-clause-fault : goal.returns-clause-fault
returns-clause-fault c =
    let each : list_all is_label (texts_of c.args.labels.now.items) ≡ true = rw (list_all_of_texts c.args.labels.now.items) (grind arith) in
    let few : different_labels (texts_of c.args.labels.now.items) ≤ 16 = rw (← c.sort_once.ensures.count) (grind arith) in
    let within : c.args.flags ≤ 31 = c.in-Some.ensures.exact.0 refl in
    first_fault_none c.args.from.now c.args.subject.now c.args.body.now (texts_of c.args.labels.now.items) c.args.flags c.in_ok-check_lengths.ensures.from_in c.in_ok-check_lengths.ensures.subject_in c.in_ok-check_lengths.ensures.body_in each few within

pub returns-in_default-clause-fault : goal.returns-in_default-clause-fault
returns-in_default-clause-fault c =
    let each : list_all is_label (texts_of c.args.labels.now.items) ≡ true = rw (list_all_of_texts c.args.labels.now.items) (grind arith) in
    let few : different_labels (texts_of c.args.labels.now.items) ≤ 16 = rw (← c.sort_once.ensures.count) (grind arith) in
    let past : 31 < c.args.flags = grind (arith, c.in_default.ensures.exact.1) in
    first_fault_flags c.args.from.now c.args.subject.now c.args.body.now (texts_of c.args.labels.now.items) c.args.flags c.in_ok-check_lengths.ensures.from_in c.in_ok-check_lengths.ensures.subject_in c.in_ok-check_lengths.ensures.body_in each few past
