use Rattle.std.proofs.Common.{◌≡◌, ◌++◌, take}
use Rattle.mr_wire.proofs.Names.{flat_map, label_bytes}
use Rattle.mr_wire.proofs.put.put_label_run.Given as goal

abbrev pub invariant-loop-label : goal.invariant-loop-label
invariant-loop-label l = l.out.items ≡ l.fn.out.items ++ flat_map label_bytes (take l.label-index l.labels)
