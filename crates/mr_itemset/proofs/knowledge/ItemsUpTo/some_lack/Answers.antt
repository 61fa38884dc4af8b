use Rattle.std.proofs.Common.{◌<◌, ◌++◌, ◌∷◌, [], take, length, sym, ◌∙◌, ap, arith}
use Rattle.mr_itemset.proofs.Names.{Name, normal_known, take_more}
use Rattle.mr_itemset.proofs.EachLemmas.{covered_each, each_more}
use Rattle.mr_itemset.proofs.MergingLemmas.{item_has}
use Rattle.mr_itemset.proofs.knowledge.ItemsUpTo.some_lack.Goals as goal

pub returns-then-not-all_lack-clause-no : goal.returns-then-not-all_lack-clause-no
returns-then-not-all_lack-clause-no g c _ = covered_each c.args.self.now c.args.items.now (g.S.Source.has c.args.set.now) c.all_lack.ensures.normal (c.all_lack.ensures.no c.if-not-all_lack.true)

pub loop-item-preserved : goal.loop-item-preserved
loop-item-preserved g c =
    let known = normal_known c.args.self.now in
    let set = g.S.Source.has c.args.set.now in
    let within : c.loop-item.item-index < length c.args.items.now = omega arith in
    rw (take_more c.args.items.now c.loop-item.item-index c.item-item.result within ∙ ap (λ (y : Name). take c.loop-item.item-index c.args.items.now ++ y ∷ []) (sym c.item-item.is))
    (each_more known known known (take c.loop-item.item-index c.args.items.now) c.item-item.result set c.loop-item.invariant (item_has known c.item-item.result set (c.item_lacks.ensures.no c.if-item_lacks.false)))
