use Rattle.std.proofs.Common.{All}
use Rattle.mr_forms.specs.Sets.{both}
use Rattle.mr_concise.specs.Vector.{vector_has, HasTooManyHoles}
use Rattle.mr_itemset.proofs.settled.Settled.would_be_holey.Given as goal

-- no vector so far would have too many
abbrev pub invariant-loop-vector : goal.invariant-loop-vector
invariant-loop-vector g l = All (λ vector. HasTooManyHoles (both (g.A.Source.has l.added) (vector_has vector.now)) → ⊥) l.yielded
