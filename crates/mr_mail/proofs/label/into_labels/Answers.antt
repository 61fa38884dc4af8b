use Rattle.std.proofs.Common.{◌≡◌, ◌∷◌, [], ◌++◌, length, true, sym, ap, subst, ◌∙◌, append_assoc, arith, string_bytes}
use Rattle.std.specs.List.{AllPass}
use Rattle.std.specs.Vec.Iter.{into_iter_items}
use Rattle.std.proofs.lemmas.List.Elements.{All-head, All-tail}
use Rattle.mr_mail.specs.Label.{is_label, texts_of}
use Rattle.mr_mail.proofs.label.into_labels.Goals as goal

pub label_of-requires : goal.label_of-requires
label_of-requires c =
    let steps : into_iter_items c.loop-text.text-iterator ≡ c.in-Some.text ∷ into_iter_items c.next.new.self = c.in-Some.ensures.steps.0 in
    let left = subst (λ texts. AllPass is_label (texts_of texts)) steps c.loop-text.invariant.1 in
    rw c.as_str.ensures.value (All-head (λ t. is_label t ≡ true) (string_bytes c.in-Some.text) (texts_of (into_iter_items c.next.new.self)) left)

pub loop-text-preserved : goal.loop-text-preserved
loop-text-preserved c =
    let steps : into_iter_items c.loop-text.text-iterator ≡ c.in-Some.text ∷ into_iter_items c.next.new.self = c.in-Some.ensures.steps.0 in
    let left = subst (λ texts. AllPass is_label (texts_of texts)) steps c.loop-text.invariant.1 in
    let rest = texts_of (into_iter_items c.next.new.self) in
    let was = c.loop-text.invariant.2 in
    let gone = c.in-Some.ensures.steps.1 in
    let short = ap length steps in (
      rw (c.in_ok-push.ensures.items, c.label_of.ensures, c.as_str.ensures.value) (c.loop-text.invariant.0 ∙ ap (λ texts. c.loop-text.labels.items ++ texts_of texts) steps ∙ sym (append_assoc c.loop-text.labels.items (string_bytes c.in-Some.text ∷ []) rest)),
      All-tail (λ t. is_label t ≡ true) (string_bytes c.in-Some.text) rest left,
      omega arith,
    )
