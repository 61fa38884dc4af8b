use Rattle.std.specs.Prelude.{is_some}
use Rattle.mr_compare.specs.declared.joining.ItemHeads.{ItemHeads}
use Rattle.mr_compare.specs.Joining.{at_item}
use Rattle.mr_compare.proofs.JoiningLemmas.{passed-step}
use Rattle.mr_compare.proofs.mails_left.push_stayed.Goals as goal

pub loop-heads-preserved : goal.loop-heads-preserved
loop-heads-preserved c =
    passed-step (λ (heads : ItemHeads). heads.view) (λ (heads : ItemHeads). is_some (at_item c.args.left.now.changed.entries heads.item)) c.args.items.now c.loop-heads.heads-index c.heads-item.result c.contains_key.result c.args.views.now.items c.loop-heads.views.items c.push_if_stayed.new.views.items
    c.loop-heads-test.true c.heads-item.is c.contains_key.ensures c.in_ok-push_if_stayed.ensures c.loop-heads.invariant
