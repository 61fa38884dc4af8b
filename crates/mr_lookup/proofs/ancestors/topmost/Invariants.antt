use Rattle.std.proofs.Common.{◌≡◌, take}
use Rattle.mr_lookup.proofs.Names.{filter, is_topmost}
use Rattle.mr_lookup.proofs.ancestors.topmost.Given as goal

abbrev pub invariant-loop-revision : goal.invariant-loop-revision
invariant-loop-revision l = l.newest.items ≡ filter (is_topmost l.revisions) (take l.revision-index l.revisions)
