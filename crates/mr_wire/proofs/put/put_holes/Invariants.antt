use Rattle.std.proofs.Common.{◌≡◌, ◌++◌, take}
use Rattle.mr_wire.proofs.Names.{flat_map, hole_bytes}
use Rattle.mr_wire.proofs.put.put_holes.Given as goal

abbrev pub invariant-loop-hole : goal.invariant-loop-hole
invariant-loop-hole l = l.out.items ≡ l.fn.out.items ++ flat_map hole_bytes (take l.hole-index l.holes)
