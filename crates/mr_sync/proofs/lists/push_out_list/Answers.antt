use Rattle.std.proofs.Common.{[]}
use Rattle.mr_wire.proofs.PutLemmas.{run_more}
use Rattle.mr_sync.specs.Lists.{revision_bytes}
use Rattle.mr_sync.proofs.lists.push_out_list.Goals as goal

pub loop-revision-preserved : goal.loop-revision-preserved
loop-revision-preserved c = run_more revision_bytes c.args.revisions.now c.loop-revision.revision-index c.revision-item.result [] _ _ c.loop-revision.invariant c.loop-revision-test.true c.revision-item.is c.in_ok-put_push_out.ensures
