use Rattle.std.proofs.Common.{map, ap, refl, [], ◌∙◌}
use Rattle.mr_itemset.specs.inner.Entries.{listed_of}
use Rattle.mr_itemset.proofs.GroupingLemmas.{GroupsSoFar, grouping_more, its_own}
use Rattle.mr_itemset.proofs.WalkLemmas.{lent, items_more, items_all}
use Rattle.mr_itemset.proofs.settled.Settled.told_groups.Goals as goal

pub loop-item-init : goal.loop-item-init
loop-item-init g c = ([], (refl, c.in_ok-grouping.ensures))

pub group_told-requires : goal.group_told-requires
group_told-requires g c = its_own _ _ c.loop-item.invariant.1.1

pub loop-item-preserved : goal.loop-item-preserved
loop-item-preserved g c =
    rw (items_more c.loop-item.yielded (c.in-Some.item, c.in-Some.own))
    (grouping_more c.args.all.now (map lent c.loop-item.yielded) (lent (c.in-Some.item, c.in-Some.own)) c.loop-item.grouping c.group_told.new.grouping c.loop-item.invariant c.in_ok-group_told.ensures)

pub returns : goal.returns
returns g c =
    let so_far : GroupsSoFar c.args.all.now c.args.self.now.listed c.loop-item.grouping = rw (items_all _ _ _ _ _ _ (ap listed_of c.into_iter-item-iterator.ensures.into_iter_gives.0 ∙ c.listed-item-items.ensures.is) c.loop-item.yielded_by c.in-None.is c.next.ensures.steps) at c.loop-item.invariant in
    (so_far.0, (so_far.1.0, rw c.into_groups.ensures so_far.1.1.groups))
