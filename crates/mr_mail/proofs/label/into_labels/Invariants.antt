use Rattle.std.proofs.Common.{◌≡◌, ◌++◌, length}
use Rattle.std.specs.Vec.Iter.{into_iter_items, into_iter_len}
use Rattle.std.specs.List.{AllPass}
use Rattle.mr_mail.specs.Label.{texts_of, is_label}
use Rattle.mr_mail.proofs.label.into_labels.Given as goal

abbrev pub invariant-loop-text : goal.invariant-loop-text
invariant-loop-text l =
    (texts_of l.fn.texts.items ≡ l.labels.items ++ texts_of (into_iter_items l.text-iterator))
    × AllPass is_label (texts_of (into_iter_items l.text-iterator))
    × (into_iter_len l.text-iterator ≡ length (into_iter_items l.text-iterator))
