use Rattle.std.proofs.Common.{◌++◌, ap, take, ◌∙◌}
use Rattle.mr_compare.proofs.Names.{flat_map, lowest, versions_in}
use Rattle.mr_compare.proofs.JoiningLemmas.{lowest-walk}
use Rattle.mr_compare.proofs.joining.lowest_version.Goals as goal

pub loop-item-preserved : goal.loop-item-preserved
loop-item-preserved c =
    let before = flat_map versions_in (take c.loop-item.item-index c.args.items.now) in
    c.lowest_with-first.ensures before c.loop-item.invariant ∙ ap (λ vs. lowest (before ++ vs)) c.deref.ensures.value
    ∙ lowest-walk versions_in c.args.items.now c.loop-item.item-index c.item-item.result c.loop-item-test.true c.item-item.is
