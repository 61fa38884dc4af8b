use Rattle.std.proofs.Common.{map, ap, ◌∙◌}
use Rattle.std.proofs.lemmas.Bool.{or_left}
use Rattle.mr_itemset.proofs.Names.{All-contains, HasMore, listed_of, vector_has}
use Rattle.mr_itemset.proofs.WalkLemmas.{lent, items_next, items_more, items_all, lower_before, Contains-middle}
use Rattle.mr_itemset.proofs.GrowLemmas.{before_next, grown_more, covers_grown}
use Rattle.mr_itemset.proofs.settled.Settled.grown_listed.Goals as goal

pub push_grown-requires-clause-before : goal.push_grown-requires-clause-before
push_grown-requires-clause-before g c =
    let whole = items_next _ _ _ _ _ _ _ (ap listed_of c.into_iter-item-iterator.ensures.into_iter_gives.0 ∙ c.listed-item-items.ensures.is) c.loop-item.yielded_by c.in-Some.is c.next.ensures.steps in
    before_next (g.A.Source.has c.args.added.now) c.args.all.now (map lent c.loop-item.yielded) (listed_of c.loop-item.listed.entries) (lent (c.in-Some.item, c.in-Some.vector)) c.loop-item.invariant
    (lower_before (map lent c.loop-item.yielded) (listed_of c.next.new.self) (lent (c.in-Some.item, c.in-Some.vector)) (rw whole at c.listed-item-items.ensures.normal.rising))

pub push_grown-requires-clause-covers : goal.push_grown-requires-clause-covers
push_grown-requires-clause-covers g c =
    let whole = items_next _ _ _ _ _ _ _ (ap listed_of c.into_iter-item-iterator.ensures.into_iter_gives.0 ∙ c.listed-item-items.ensures.is) c.loop-item.yielded_by c.in-Some.is c.next.ensures.steps in
    covers_grown (g.A.Source.has c.args.added.now) c.args.all.now c.args.self.now.all (lent (c.in-Some.item, c.in-Some.vector)) c.requires.has
    (All-contains (HasMore c.args.self.now.all) c.args.self.now.listed (lent (c.in-Some.item, c.in-Some.vector)) c.listed-item-items.ensures.normal.more (Contains-middle c.args.self.now.listed (map lent c.loop-item.yielded) (listed_of c.next.new.self) (lent (c.in-Some.item, c.in-Some.vector)) whole))

pub push_grown-requires-clause-added : goal.push_grown-requires-clause-added
push_grown-requires-clause-added g c v is_in = c.requires.has v ∙ or_left (g.A.Source.has c.args.added.now v) (vector_has c.args.self.now.all v) is_in

pub loop-item-preserved : goal.loop-item-preserved
loop-item-preserved g c =
    rw (items_more c.loop-item.yielded (c.in-Some.item, c.in-Some.vector))
    (grown_more (g.A.Source.has c.args.added.now) c.args.all.now (map lent c.loop-item.yielded) (listed_of c.loop-item.listed.entries) (listed_of c.push_grown.new.listed.entries) (lent (c.in-Some.item, c.in-Some.vector)) c.loop-item.invariant c.in_ok-push_grown.ensures)

pub returns : goal.returns
returns g c =
    rw (items_all _ _ _ _ _ _ (ap listed_of c.into_iter-item-iterator.ensures.into_iter_gives.0 ∙ c.listed-item-items.ensures.is) c.loop-item.yielded_by c.in-None.is c.next.ensures.steps) at c.loop-item.invariant
