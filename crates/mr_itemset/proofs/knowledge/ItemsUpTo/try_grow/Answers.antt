use Rattle.std.proofs.Common.{Some, refl, arith, lit<}
use Rattle.mr_forms.specs.Sets.{both}
use Rattle.mr_itemset.proofs.Names.{IsKept, IsNormal, IsSparse, IsVectorOf, vector_has, vector_of}
use Rattle.mr_itemset.proofs.ItemLemmas.{lacks_second}
use Rattle.mr_itemset.proofs.AtMostLemmas.{pending_kept, few_for_all}
use Rattle.mr_itemset.proofs.ValueLemmas.{has_learned}
use Rattle.mr_itemset.proofs.KeptLemmas.{listed_below}
use Rattle.mr_itemset.proofs.knowledge.ItemsUpTo.try_grow.Goals as goal

pub grown_item-requires : goal.grown_item-requires
grown_item-requires g c =
    let room = c.self.invariant.room 0 in (
      lit< tt,
      (
        c.self.invariant.few,
        (
          omega arith,
          lacks_second (both (g.A.Source.has c.args.learned.now) (vector_has c.self.inside.pending)) (vector_has (vector_of c.self.inside.settled c.in-Some.item)) (g.S.Source.has c.args.below.now) c.in-Some.ensures.lacks,
        ),
      ),
    )

-- nothing is listed: the versions are pending with the others
pub invariant_of-self-in_default : goal.invariant_of-self-in_default
invariant_of-self-in_default g c =
    let kept = c.self.invariant in
    pending_kept c.self.inside.settled c.self.inside.pending c.add_all.new.vector c.self.inside.most_holes c.most_holes-waiting.result c.most_holes-added.result (g.A.Source.has c.args.learned.now) kept.normal kept.few kept.vector_ok c.in_ok-add_all.ensures.ok c.most_holes-waiting.ensures.most c.most_holes-added.ensures.most (c.fit_together.ensures c.if-not-fit_together.false)

pub returns-in_default-clause-done : goal.returns-in_default-clause-done
returns-in_default-clause-done g c _ =
    let learned = g.A.Source.has c.args.learned.now in
    let kept = c.self.invariant in
    let is : IsVectorOf (both learned (vector_has c.self.inside.pending)) c.add_all.new.vector = c.in_ok-add_all.ensures.ok in
    let fits = c.fit_together.ensures c.if-not-fit_together.false in
    let then : IsKept g.row.LIMIT c.self.inside.settled c.add_all.new.vector c.self.inside.most_holes = pending_kept c.self.inside.settled c.self.inside.pending c.add_all.new.vector c.self.inside.most_holes c.most_holes-waiting.result c.most_holes-added.result learned kept.normal kept.few kept.vector_ok is c.most_holes-waiting.ensures.most c.most_holes-added.ensures.most fits in
    rw (← c.self.view_is) (has_learned c.self.inside.settled c.self.inside.settled c.self.inside.pending c.add_all.new.vector c.self.inside.most_holes c.self.inside.most_holes learned (g.S.Source.has c.args.below.now) c.args.item.now kept then is.has (c.in_default.ensures.none refl)
    (few_for_all c.self.inside.settled c.self.inside.pending c.self.inside.most_holes c.most_holes-waiting.result c.most_holes-added.result learned kept c.most_holes-waiting.ensures.most c.most_holes-added.ensures.most fits))

-- the item is listed, and the versions are pending with the others
pub invariant_of-self-2 : goal.invariant_of-self-2
invariant_of-self-2 g c =
    let normal : IsNormal g.row.LIMIT c.list_with.new.self = rw c.in_ok-list_with.ensures.ok (rw c.in-Some-grown.is at c.in_ok-grown.ensures.fits) in
    let sparse : IsSparse c.list_with.new.self c.in-Some-grown.holes = rw c.in_ok-list_with.ensures.ok (rw c.in-Some-grown.is at c.in_ok-grown.ensures.sparse) in
    pending_kept c.list_with.new.self c.self.inside.pending c.list_with.new.pending c.in-Some-grown.holes c.most_holes-waiting.result c.most_holes-added.result (g.A.Source.has c.args.learned.now) normal sparse c.self.invariant.vector_ok c.in_ok-list_with.ensures.pending c.most_holes-waiting.ensures.most c.most_holes-added.ensures.most (c.fit_together-2.ensures c.if-not-fit_together-2.false)

pub returns-clause-done : goal.returns-clause-done
returns-clause-done g c _ =
    let learned = g.A.Source.has c.args.learned.now in
    let set = g.S.Source.has c.args.below.now in
    let is : IsVectorOf (both learned (vector_has c.self.inside.pending)) c.list_with.new.pending = c.in_ok-list_with.ensures.pending in
    rw (← c.self.view_is, c.in-Some.ensures.is) (has_learned c.self.inside.settled c.list_with.new.self c.self.inside.pending c.list_with.new.pending c.self.inside.most_holes c.in-Some-grown.holes learned set (Some c.in-Some.item) c.self.invariant (invariant_of-self-2 g c) is.has
    (listed_below c.self.inside.settled c.list_with.new.self (both learned (vector_has c.self.inside.pending)) c.in-Some.item set (rw c.in_ok-list_with.ensures.ok (rw c.in-Some-grown.is at c.in_ok-grown.ensures.known)))
    (few_for_all c.self.inside.settled c.self.inside.pending c.self.inside.most_holes c.most_holes-waiting.result c.most_holes-added.result learned c.self.invariant c.most_holes-waiting.ensures.most c.most_holes-added.ensures.most (c.fit_together.ensures c.if-not-fit_together.false)))
