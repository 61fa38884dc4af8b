use Rattle.std.proofs.Common.{◌≡◌, ◌++◌, take}
use Rattle.mr_wire.proofs.Names.{column_bytes, flat_map}
use Rattle.mr_wire.proofs.put.put_columns.Given as goal

abbrev pub invariant-loop-x : goal.invariant-loop-x
invariant-loop-x l = l.out.items ≡ l.fn.out.items ++ flat_map column_bytes (take l.x-index l.columns)
