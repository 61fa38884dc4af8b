use Rattle.std.proofs.Common.{sym, ◌∙◌, refl}
use Rattle.mr_itemset.proofs.Names.{All-push, HasTooManyHoles, false≢true, vector_has}
use Rattle.mr_forms.specs.Sets.{both}
use Rattle.mr_itemset.proofs.WalkLemmas.{All-read, read_vector}
use Rattle.mr_itemset.proofs.LimitLemmas.{holey_all, holey_listed, not_holey}
use Rattle.mr_itemset.proofs.settled.Settled.would_be_holey.Goals as goal

pub returns-then-would_have_too_many-clause-holey : goal.returns-then-would_have_too_many-clause-holey
returns-then-would_have_too_many-clause-holey g c = (λ _. holey_all c.args.self.now (g.A.Source.has c.args.added.now) (rw c.for_all.ensures.is at (c.would_have_too_many.ensures.0 c.if-would_have_too_many.true)), λ _. refl)

pub returns-then-would_have_too_many-2-clause-holey : goal.returns-then-would_have_too_many-2-clause-holey
returns-then-would_have_too_many-2-clause-holey g c =
    let read = read_vector _ _ _ _ _ _ _ (c.into_iter-vector-iterator.ensures.into_iter_gives ∙ c.vectors-vector-items.ensures.is) c.loop-vector.yielded_by c.in-Some.is c.next.ensures.steps in (
      λ _. holey_listed c.args.self.now (g.A.Source.has c.args.added.now) read.0 c.vectors-vector-items.ensures.normal read.1.0 (rw read.1.1 (c.would_have_too_many-in-loop-vector.ensures.0 c.if-would_have_too_many-2.true)),
      λ _. refl,
    )

pub loop-vector-preserved : goal.loop-vector-preserved
loop-vector-preserved g c =
    All-push (λ vector. HasTooManyHoles (both (g.A.Source.has c.args.added.now) (vector_has vector.now)) → ⊥) c.loop-vector.yielded c.in-Some.vector c.loop-vector.invariant
    (λ many. false≢true (sym c.if-would_have_too_many-2.false ∙ c.would_have_too_many-in-loop-vector.ensures.1 many))

pub returns-clause-holey : goal.returns-clause-holey
returns-clause-holey g c = (
  λ wrong. absurd (false≢true wrong),
  λ holey. absurd (not_holey c.args.self.now (g.A.Source.has c.args.added.now)
      (λ many. false≢true (sym c.if-would_have_too_many.false ∙ c.would_have_too_many.ensures.1 (rw (← c.for_all.ensures.is) at many)))
      (All-read (λ vector. HasTooManyHoles (both (g.A.Source.has c.args.added.now) (vector_has vector)) → ⊥) _ _ _ _ _ _ (c.into_iter-vector-iterator.ensures.into_iter_gives ∙ c.vectors-vector-items.ensures.is) c.loop-vector.yielded_by c.in-None.is c.next.ensures.steps c.loop-vector.invariant) holey),
)
