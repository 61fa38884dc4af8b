use Rattle.mr_wire.specs.Spelling.{name_bytes}
use Rattle.mr_wire.proofs.PutLemmas.{run_more}
use Rattle.mr_fold.proofs.rest_bytes.put_items.Goals as goal

pub loop-item-preserved : goal.loop-item-preserved
loop-item-preserved c = run_more name_bytes c.args.items.now c.loop-item.item-index c.item-item.result c.args.out.now.items _ _ c.loop-item.invariant c.loop-item-test.true c.item-item.is (rw c.creator.ensures at c.in_ok-put_version.ensures.written)
