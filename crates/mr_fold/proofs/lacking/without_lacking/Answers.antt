use Rattle.std.proofs.Common.{ℕ, List, Option, Some, cond, ap, ◌∙◌}
use Rattle.mr_compare.specs.Joining.{at_item}
use Rattle.mr_compare.specs.Sides.{at_digest}
use Rattle.mr_fold.specs.inner.Lacking.{is_digest, unshown}
use Rattle.mr_fold.proofs.LackingLemmas.{put_more}
use Rattle.mr_fold.proofs.lacking.without_lacking.Goals as goal

pub loop-item-preserved : goal.loop-item-preserved
loop-item-preserved c = λ digest.
    put_more (λ item. is_digest digest (at_item c.args.digests.now.entries item)) c.args.lacking.now c.loop-item.item-index c.item-item.result (Some unshown)
    (at_digest c.args.left.now.entries digest) (at_digest c.loop-item.left.entries digest) (at_digest c.leave_out.new.left.entries digest) c.loop-item-test.true c.item-item.is
    (c.in_ok-leave_out.ensures digest ∙ ap (λ (d : Option (List ℕ)). cond (is_digest digest d) (Some unshown) (at_digest c.loop-item.left.entries digest)) c.get.ensures.value)
    (c.loop-item.invariant digest)
