use Rattle.std.proofs.Common.{map, ap, ◌∙◌}
use Rattle.mr_itemset.proofs.Names.{All-contains, All-push, Covers, listed_of, normal_known, vector_has}
use Rattle.mr_itemset.proofs.WalkLemmas.{lent, items_next, items_more, items_all, Contains-middle}
use Rattle.mr_itemset.proofs.WithLemmas.{lacks-not_covers}
use Rattle.mr_itemset.proofs.knowledge.ItemsUpTo.covers_listed.Goals as goal

pub loop-item-preserved : goal.loop-item-preserved
loop-item-preserved g c =
    rw (items_more c.loop-item.yielded (c.in-Some.item, c.in-Some.vector))
    (All-push (λ x. Covers (normal_known c.args.self.now x.item) (vector_has x.vector)) (map lent c.loop-item.yielded) (lent (c.in-Some.item, c.in-Some.vector)) c.loop-item.invariant (c.item_lacks.ensures.no c.if-item_lacks.false))

pub returns-clause-yes : goal.returns-clause-yes
returns-clause-yes g c _ =
    rw (items_all _ _ _ _ _ _ (ap listed_of c.into_iter-item-iterator.ensures.into_iter_gives.0 ∙ c.listed-item-items.ensures.is) c.loop-item.yielded_by c.in-None.is c.next.ensures.steps) at c.loop-item.invariant

pub returns-then-item_lacks-clause-no : goal.returns-then-item_lacks-clause-no
returns-then-item_lacks-clause-no g c _ all =
    let whole = items_next _ _ _ _ _ _ _ (ap listed_of c.into_iter-item-iterator.ensures.into_iter_gives.0 ∙ c.listed-item-items.ensures.is) c.loop-item.yielded_by c.in-Some.is c.next.ensures.steps in
    lacks-not_covers (normal_known c.args.self.now c.in-Some.item.now) (vector_has c.in-Some.vector.now) (c.item_lacks.ensures.yes c.if-item_lacks.true)
    (All-contains (λ x. Covers (normal_known c.args.self.now x.item) (vector_has x.vector)) c.args.settled.now.listed (lent (c.in-Some.item, c.in-Some.vector)) all
    (Contains-middle c.args.settled.now.listed (map lent c.loop-item.yielded) (listed_of c.next.new.self) (lent (c.in-Some.item, c.in-Some.vector)) whole))
