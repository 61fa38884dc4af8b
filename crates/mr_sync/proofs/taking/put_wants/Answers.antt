use Rattle.std.proofs.Common.{[], slice_index_or, sym, append-nil}
use Rattle.std.proofs.lemmas.List.{get_or_default}
use Rattle.mr_sync.proofs.TakenLists.{put_more}
use Rattle.mr_sync.proofs.taking.put_wants.Goals as goal

pub loop-digest-init : goal.loop-digest-init
loop-digest-init c = sym (append-nil c.args.wants.now.items)

pub loop-digest-preserved : goal.loop-digest-preserved
loop-digest-preserved c =
    let digest = slice_index_or c.args.digests.now c.loop-digest.digest-index [] in
    put_more c.args.digests.now c.loop-digest.digest-index digest _ _ _ c.loop-digest-test.true
    (get_or_default c.args.digests.now c.loop-digest.digest-index [] digest c.loop-digest-test.true) c.loop-digest.invariant c.in_ok-push_back.ensures.items
