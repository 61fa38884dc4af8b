use Rattle.std.proofs.Common.{All}
use Rattle.mr_forms.specs.Sets.{Covers, both}
use Rattle.mr_concise.specs.Vector.{vector_has}
use Rattle.mr_itemset.proofs.settled.Settled.would_drop.Given as goal

-- of each item so far more is known still
abbrev pub invariant-loop-vector : goal.invariant-loop-vector
invariant-loop-vector g l = All (λ vector. ¬ Covers (both (g.A.Source.has l.learned) (vector_has l.self.all)) (vector_has vector.now)) l.yielded
