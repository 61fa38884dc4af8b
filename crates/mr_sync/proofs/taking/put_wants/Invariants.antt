use Rattle.std.proofs.Common.{◌≡◌, ◌++◌, take}
use Rattle.mr_sync.proofs.taking.put_wants.Given as goal

abbrev pub invariant-loop-digest : goal.invariant-loop-digest
invariant-loop-digest l = l.wants.items ≡ l.fn.wants.items ++ take l.digest-index l.digests
