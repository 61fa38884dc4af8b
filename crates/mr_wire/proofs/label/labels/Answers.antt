use Rattle.std.proofs.Common.{arith}
use Rattle.mr_wire.proofs.FilterLemmas.{stands_labels}
use Rattle.mr_wire.proofs.label.labels.Goals as goal

pub returns : goal.returns
returns c = stands_labels c.args.input.now c.u8.new.self c.in_ok-count.count c.in_ok-count.ensures (omega arith) c.in_ok-labels.labels c.label_run.new.input c.in_ok-labels.ensures
