use Rattle.std.proofs.Common.{◌≡◌, take}
use Rattle.mr_sync.proofs.Names.{flat_map, revision_bytes}
use Rattle.mr_sync.proofs.lists.push_out_list.Given as goal

abbrev pub invariant-loop-revision : goal.invariant-loop-revision
invariant-loop-revision l = l.out.items ≡ flat_map revision_bytes (take l.revision-index l.revisions)
