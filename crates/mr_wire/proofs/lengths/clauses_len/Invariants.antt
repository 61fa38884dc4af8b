use Rattle.std.proofs.Common.{◌≡◌, ◌≤◌, ◌*◌, length, take}
use Rattle.mr_wire.proofs.Names.{clause_bytes, flat_map}
use Rattle.mr_wire.proofs.lengths.clauses_len.Given as goal

abbrev pub invariant-loop-clause : goal.invariant-loop-clause
invariant-loop-clause l = record { exact : l.len ≡ length (flat_map clause_bytes (take l.clause-index l.clauses)); most : l.len ≤ 1062 * l.clause-index }
