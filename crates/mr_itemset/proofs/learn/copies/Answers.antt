use Rattle.std.proofs.Common.{List, [], ◌∷◌, ◌++◌, map, ap, sym, ◌∙◌}
use Rattle.mr_itemset.proofs.Names.{AuthorColumn, Listed, listed_as, listed_of, placed}
use Rattle.mr_itemset.proofs.EntryLemmas.{placed-last}
use Rattle.mr_itemset.proofs.WalkLemmas.{lent, items_next, items_more, items_all, lower_before}
use Rattle.mr_itemset.proofs.learn.copies.Goals as goal

pub loop-item-preserved : goal.loop-item-preserved
loop-item-preserved c =
    let whole = items_next _ _ _ _ _ _ _ (ap listed_of c.into_iter-item-iterator.ensures.into_iter_gives.0) c.loop-item.yielded_by c.in-Some.is c.next.ensures.steps in
    let lower = lower_before (map lent c.loop-item.yielded) (listed_of c.next.new.self) (lent (c.in-Some.item, c.in-Some.vector)) (rw whole at c.requires) in
    c.in_ok-put_in.ensures.ok
    ∙ ap (λ (xs : List Listed). placed (listed_as c.in-Some.item.now c.in-Ok.vector) xs) c.loop-item.invariant
    ∙ placed-last (listed_as c.in-Some.item.now c.in-Ok.vector) (map lent c.loop-item.yielded) lower
    ∙ ap (λ (vector : List AuthorColumn). map lent c.loop-item.yielded ++ listed_as c.in-Some.item.now vector ∷ []) c.in-Ok.ensures
    ∙ sym (items_more c.loop-item.yielded (c.in-Some.item, c.in-Some.vector))

pub returns : goal.returns
returns c =
    c.loop-item.invariant
    ∙ items_all _ _ _ _ _ _ (ap listed_of c.into_iter-item-iterator.ensures.into_iter_gives.0) c.loop-item.yielded_by c.in-None.is c.next.ensures.steps
