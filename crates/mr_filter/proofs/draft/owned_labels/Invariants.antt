use Rattle.std.proofs.Common.{◌≡◌, take}
use Rattle.mr_filter.specs.inner.Written.{lent_texts}
use Rattle.mr_filter.proofs.draft.owned_labels.Given as goal

abbrev pub invariant-loop-text : goal.invariant-loop-text
invariant-loop-text l = l.labels.items ≡ lent_texts (take l.text-index l.texts)
