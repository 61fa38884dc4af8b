use Rattle.std.proofs.Common.{◌≡◌, ◌++◌, ℕ, List}
use Rattle.mr_talk.specs.inner.Packed.{ArePairs}
use Rattle.mr_talk.proofs.packing.write_pairs.Given as goal

abbrev pub invariant-loop-pair : goal.invariant-loop-pair
invariant-loop-pair l = (bytes : List ℕ) × ArePairs l.pair l.text bytes × (l.packed.items ≡ l.fn.packed.items ++ bytes)
