use Rattle.std.proofs.Common.{◌∙◌}
use Rattle.mr_itemset.proofs.Names.{All-push, Covers, vector_has}
use Rattle.mr_forms.specs.Sets.{both}
use Rattle.mr_itemset.proofs.WalkLemmas.{All-read, read_vector}
use Rattle.mr_itemset.proofs.WithLemmas.{lacks-not_covers}
use Rattle.mr_itemset.proofs.settled.Settled.would_drop.Goals as goal

pub loop-vector-preserved : goal.loop-vector-preserved
loop-vector-preserved g c =
    All-push (λ vector. ¬ Covers (both (g.A.Source.has c.args.learned.now) (vector_has c.args.self.now.all)) (vector_has vector.now)) c.loop-vector.yielded c.in-Some.vector c.loop-vector.invariant
    (λ covers. lacks-not_covers (both (g.A.Source.has c.args.learned.now) (vector_has c.args.self.now.all)) (vector_has c.in-Some.vector.now) (rw c.for_all.ensures.is at (c.lacks.ensures.yes c.if-not-lacks.false)) covers)

pub returns-then-not-lacks-clause-yes : goal.returns-then-not-lacks-clause-yes
returns-then-not-lacks-clause-yes g c _ =
    let read = read_vector _ _ _ _ _ _ _ (c.into_iter-vector-iterator.ensures.into_iter_gives ∙ c.vectors-vector-items.ensures.is) c.loop-vector.yielded_by c.in-Some.is c.next.ensures.steps in
    record { dropped = read.0; is_in = read.1.0; covers = rw (read.1.1, ← c.for_all.ensures.is) (c.lacks.ensures.no c.if-not-lacks.true) }

pub returns-clause-no : goal.returns-clause-no
returns-clause-no g c _ =
    All-read (λ vector. ¬ Covers (both (g.A.Source.has c.args.learned.now) (vector_has c.args.self.now.all)) (vector_has vector)) _ _ _ _ _ _ (c.into_iter-vector-iterator.ensures.into_iter_gives ∙ c.vectors-vector-items.ensures.is) c.loop-vector.yielded_by c.in-None.is c.next.ensures.steps c.loop-vector.invariant
