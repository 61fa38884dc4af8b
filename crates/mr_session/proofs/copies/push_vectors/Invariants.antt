use Rattle.std.proofs.Common.{◌≡◌, ◌++◌, take}
use Rattle.mr_session.proofs.copies.push_vectors.Given as goal

abbrev pub invariant-loop-vector : goal.invariant-loop-vector
invariant-loop-vector l = l.copied.items ≡ l.initial.copied.items ++ take l.vector-index l.vectors
