use Rattle.std.proofs.Common.{◌≡◌, filter, map, take}
use Rattle.mr_store.specs.Leaving.{leaves}
use Rattle.mr_replica.proofs.Releasing.{gone_of}
use Rattle.mr_replica.proofs.replica.contents.entries.entries_of_gone.Given as goal

-- of the versions so far those that leave are told
abbrev pub invariant-loop-version : goal.invariant-loop-version
invariant-loop-version l = l.entries.items ≡ map (gone_of l.item) (filter (leaves l.ones l.below) (take l.version-index l.version-items))
