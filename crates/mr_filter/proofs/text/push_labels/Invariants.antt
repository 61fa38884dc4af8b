use Rattle.std.proofs.Common.{◌≡◌, ◌++◌, map, take}
use Rattle.mr_mail.specs.Label.{texts_of}
use Rattle.mr_filter.proofs.text.push_labels.Given as goal

abbrev pub invariant-loop-label : goal.invariant-loop-label
invariant-loop-label l = texts_of l.texts.items ≡ texts_of l.fn.texts.items ++ map (λ label. l.prefix ++ label) (take l.label-index l.labels)
