use Rattle.std.proofs.Common.{◌≡◌, ◌<◌, ◌∙◌, take, length, refl}
use Rattle.std.proofs.lemmas.List.{take_more, take_all}
use Rattle.mr_store.proofs.revision_list.copies.Goals as goal

pub loop-revision-preserved : goal.loop-revision-preserved
loop-revision-preserved c =
    let so_far : c.loop-revision.copied.items ≡ take c.loop-revision.revision-index c.args.revisions.now = c.loop-revision.invariant in
    let within : c.loop-revision.revision-index < length c.args.revisions.now = c.loop-revision-test.true in
    rw (c.in_ok-push.ensures.items, so_far, c.in_ok-copy.ensures, take_more c.args.revisions.now c.loop-revision.revision-index c.revision-item.result within, ← c.revision-item.is) refl

pub returns : goal.returns
returns c =
    let so_far : c.loop-revision.copied.items ≡ take c.loop-revision.revision-index c.args.revisions.now = c.loop-revision.invariant in
    so_far ∙ take_all c.loop-revision.revision-index c.args.revisions.now c.loop-revision-test.false
