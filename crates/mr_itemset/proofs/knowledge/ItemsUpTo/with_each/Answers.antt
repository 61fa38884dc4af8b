use Rattle.std.proofs.Common.{◌<◌, ◌++◌, ◌∷◌, [], take, length, sym, ◌∙◌, ap, arith}
use Rattle.mr_itemset.proofs.Names.{Name, normal_known, take_all, take_more}
use Rattle.mr_itemset.proofs.EachLemmas.{each_more}
use Rattle.mr_itemset.proofs.knowledge.ItemsUpTo.with_each.Goals as goal

pub loop-item-preserved : goal.loop-item-preserved
loop-item-preserved g c =
    let within : c.loop-item.item-index < length c.args.items.now = omega arith in
    rw (take_more c.args.items.now c.loop-item.item-index c.item-item.result within ∙ ap (λ (y : Name). take c.loop-item.item-index c.args.items.now ++ y ∷ []) (sym c.item-item.is))
    (each_more (normal_known c.args.self.now) (normal_known c.loop-item.grown) (normal_known c.learn_below.new.self) (take c.loop-item.item-index c.args.items.now) c.item-item.result (g.S.Source.has c.args.set.now) c.loop-item.invariant c.in_ok-learn_below.ensures.ok)

pub loop-item-init : goal.loop-item-init
loop-item-init g c i v = ap (λ k. normal_known k i v) c.in_ok-grown.ensures.is

pub returns : goal.returns
returns g c = rw (take_all c.loop-item.item-index c.args.items.now c.loop-item-test.false) at c.loop-item.invariant
