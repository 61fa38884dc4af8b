use Rattle.std.proofs.Common.{◌≡◌, map, take}
use Rattle.mr_store.specs.Revisions.{versions_of}
use Rattle.mr_desk.specs.Version.{numbers_of}
use Rattle.mr_c.proofs.conflicts.versions_of.Given as goal

abbrev pub invariant-loop-head : goal.invariant-loop-head
invariant-loop-head l = l.versions.items ≡ map numbers_of (versions_of l.item (take l.head-index l.heads))
