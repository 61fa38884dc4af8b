use Rattle.std.proofs.Common.{◌≡◌, ◌++◌, take}
use Rattle.mr_wire.proofs.Names.{clause_bytes, flat_map}
use Rattle.mr_wire.proofs.put.put_clauses.Given as goal

abbrev pub invariant-loop-clause : goal.invariant-loop-clause
invariant-loop-clause l = l.out.items ≡ l.fn.out.items ++ flat_map clause_bytes (take l.clause-index l.clauses)
