use Rattle.std.proofs.Common.{◌≡◌, take}
use Rattle.mr_lookup.proofs.Names.{filter, is_common}
use Rattle.mr_lookup.proofs.ancestors.common_ancestors.Given as goal

abbrev pub invariant-loop-revision : goal.invariant-loop-revision
invariant-loop-revision l = l.common.items ≡ filter (is_common l.heads) (take l.revision-index l.revisions)
