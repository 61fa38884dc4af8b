use Rattle.std.proofs.Common.{◌≡◌, take}
use Rattle.mr_mail.proofs.label.Label.copy_all.Given as goal

abbrev pub invariant-loop-label : goal.invariant-loop-label
invariant-loop-label l = l.copied.items ≡ take l.label-index l.labels
