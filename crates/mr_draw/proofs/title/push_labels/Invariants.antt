use Rattle.std.proofs.Common.{◌≡◌, ◌++◌, string_bytes, take}
use Rattle.mr_draw.specs.Words.{labels_title}
use Rattle.mr_draw.proofs.title.push_labels.Given as goal

-- the labels so far
abbrev pub invariant-loop-label : goal.invariant-loop-label
invariant-loop-label l = string_bytes l.title ≡ string_bytes l.fn.title ++ labels_title (take l.label-index l.labels)
