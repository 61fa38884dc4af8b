use Rattle.std.proofs.Common.{◌≡◌, ◌<◌, ℕ, true, List, get_or}
use Rattle.mr_mail.specs.Label.{is_label}
use Rattle.mr_joins.proofs.view.tell_labels.Given as goal

abbrev pub invariant-loop-label : goal.invariant-loop-label
invariant-loop-label l = (k : ℕ) (d : List ℕ) → k < l.label-index → is_label (get_or l.labels k d) ≡ true
