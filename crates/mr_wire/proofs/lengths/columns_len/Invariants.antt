use Rattle.std.proofs.Common.{◌≡◌, ◌≤◌, ◌*◌, length, take}
use Rattle.mr_wire.proofs.Names.{column_bytes, flat_map}
use Rattle.mr_wire.proofs.lengths.columns_len.Given as goal

abbrev pub invariant-loop-x : goal.invariant-loop-x
invariant-loop-x l = record { exact : l.len ≡ length (flat_map column_bytes (take l.x-index l.columns)); most : l.len ≤ 32776 * l.x-index }
