use Rattle.std.proofs.Common.{◌≡◌, map, take}
use Rattle.mr_replica.specs.Issue.{dropped}
use Rattle.mr_replica.proofs.replica.contents.entries.entries_of_left.Given as goal

abbrev pub invariant-loop-revision : goal.invariant-loop-revision
invariant-loop-revision l = l.entries.items ≡ map dropped (take l.revision-index l.left)
