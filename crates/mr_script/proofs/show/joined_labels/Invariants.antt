use Rattle.std.proofs.Common.{◌≡◌, take, map}
use Rattle.mr_script.proofs.show.joined_labels.Given as goal

abbrev pub invariant-loop-label : goal.invariant-loop-label
invariant-loop-label l = map (λ t. t.now) l.texts.items ≡ take l.label-index l.labels
