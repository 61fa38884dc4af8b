use Rattle.std.proofs.Common.{◌≡◌, length, take, refl, ap, sym, ◌∙◌, arith}
use Rattle.mr_itemset.proofs.Names.{All-more, HasHoleyItem, false≢true, normal_known, take-length, with_below}
use Rattle.mr_itemset.proofs.FoldedLemmas.{normal_few}
use Rattle.mr_itemset.proofs.EachLemmas.{holey_each, not_holey_each}
use Rattle.mr_itemset.proofs.knowledge.ItemsUpTo.would_be_holey_in.Goals as goal

pub returns-then-would_be_holey_more : goal.returns-then-would_be_holey_more
returns-then-would_be_holey_more g c = (
  λ _. holey_each c.args.self.now c.args.items.now (g.S.Source.has c.args.set.now) c.item-item.result c.requires (c.loop-item.item-index, omega arith, sym c.item-item.is) (c.would_be_holey_more.ensures.yes c.if-would_be_holey_more.true),
  λ _. refl,
)

pub loop-item-preserved : goal.loop-item-preserved
loop-item-preserved g c =
    All-more (λ item. ¬ HasHoleyItem (with_below (normal_known c.args.self.now) item (g.S.Source.has c.args.set.now))) c.args.items.now c.loop-item.item-index c.item-item.result (omega arith) c.loop-item.invariant
    (λ holey. normal_few c.args.self.now c.requires (c.would_be_holey_more.ensures.no c.if-would_be_holey_more.false (rw (← c.item-item.is) at holey)))

pub returns : goal.returns
returns g c =
    let at_end : c.loop-item.item-index ≡ length c.args.items.now = omega arith in
    let whole : take c.loop-item.item-index c.args.items.now ≡ c.args.items.now = ap (λ k. take k c.args.items.now) at_end ∙ take-length c.args.items.now in (
      λ wrong. absurd (false≢true wrong),
      λ holey. absurd (not_holey_each c.args.self.now c.args.items.now (g.S.Source.has c.args.set.now) c.requires (rw whole at c.loop-item.invariant) holey),
    )
