use Rattle.std.proofs.Common.{◌≡◌, vec_len}
use Rattle.mr_forms.specs.inner.Additions.{taken_back}
use Rattle.mr_forms.proofs.additions.take_back.Given as goal

-- what is left to take back leads to the same keys
abbrev pub invariant-loop-key : goal.invariant-loop-key
invariant-loop-key g l = taken_back g.K.Ord.cmp l.added.items l.set.keys ≡ taken_back g.K.Ord.cmp l.fn.added.items l.fn.set.keys

abbrev pub decreases-loop-key : goal.decreases-loop-key
decreases-loop-key g l = vec_len l.added
