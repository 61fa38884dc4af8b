use Rattle.mr_sync.specs.inner.Packed.{PacksSoFar}
use Rattle.mr_sync.proofs.packed.front_packed.Given as goal

abbrev pub invariant-loop : goal.invariant-loop
invariant-loop l = PacksSoFar l.fn.frames.items l.fn.last l.bytes.items l.frames.items l.last l.room
