use Rattle.std.proofs.Common.{◌∙◌, ◌++◌, map}
use Rattle.mr_decide.specs.declared.held.Head.{Head}
use Rattle.mr_decide.proofs.HeldLemmas.{values-more}
use Rattle.mr_decide.proofs.held.values_of.Goals as goal

pub loop-item-preserved : goal.loop-item-preserved
loop-item-preserved c =
    c.in_ok-push_values.ensures
    ∙ (λ i. c.loop-item.invariant i ++ map (λ (head : Head). head.value) (c.deref.ensures.value i))
    ∙ values-more c.args.held.now c.loop-item.item-index c.item-item.result c.loop-item-test.true c.item-item.is
