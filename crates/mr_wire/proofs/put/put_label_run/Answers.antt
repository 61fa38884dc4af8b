use Rattle.mr_wire.specs.Spelling.{label_bytes}
use Rattle.mr_wire.proofs.PutLemmas.{run_more}
use Rattle.mr_wire.proofs.put.put_label_run.Goals as goal

pub loop-label-preserved : goal.loop-label-preserved
loop-label-preserved c = run_more label_bytes c.args.labels.now c.loop-label.label-index c.label-item.result c.args.out.now.items _ _ c.loop-label.invariant c.loop-label-test.true c.label-item.is c.in_ok-put_label.ensures
