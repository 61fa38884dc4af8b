use Rattle.std.proofs.Common.{◌≡◌, map, take}
use Rattle.mr_store.specs.Revisions.{version_of}
use Rattle.mr_desk.proofs.merging.versions_of.Given as goal

abbrev pub invariant-loop-head : goal.invariant-loop-head
invariant-loop-head l = l.versions.items ≡ map version_of (take l.head-index l.heads)
