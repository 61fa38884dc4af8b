use Rattle.std.proofs.Common.{◌≡◌, take}
use Rattle.std.specs.List.{flat_map}
use Rattle.mr_fold.specs.inner.Resting.{size_bytes}
use Rattle.mr_fold.proofs.rest_bytes.store_bytes.Given as goal

abbrev pub invariant-loop-size : goal.invariant-loop-size
invariant-loop-size l = l.out.items ≡ flat_map size_bytes (take l.size-index l.sizes)
