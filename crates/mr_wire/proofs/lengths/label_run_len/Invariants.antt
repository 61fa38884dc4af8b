use Rattle.std.proofs.Common.{◌≡◌, ◌≤◌, ◌*◌, length, take}
use Rattle.mr_wire.proofs.Names.{flat_map, label_bytes}
use Rattle.mr_wire.proofs.lengths.label_run_len.Given as goal

abbrev pub invariant-loop-label : goal.invariant-loop-label
invariant-loop-label l = record { exact : l.len ≡ length (flat_map label_bytes (take l.label-index l.labels)); most : l.len ≤ 33 * l.label-index }
