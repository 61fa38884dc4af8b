use Rattle.std.proofs.Common.{◌≡◌, take}
use Rattle.mr_store.proofs.revision_list.copies.Given as goal

abbrev pub invariant-loop-revision : goal.invariant-loop-revision
invariant-loop-revision l = l.copied.items ≡ take l.revision-index l.revisions
