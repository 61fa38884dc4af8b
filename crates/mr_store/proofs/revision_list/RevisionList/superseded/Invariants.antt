use Rattle.std.proofs.Common.{◌≡◌, take}
use Rattle.mr_store.proofs.Names.{filter_map, vector_has}
use Rattle.mr_store.proofs.RevisionLemmas.{found_below}
use Rattle.mr_store.proofs.revision_list.RevisionList.superseded.Given as goal

-- the versions so far give these revisions
abbrev pub invariant-loop-version : goal.invariant-loop-version
invariant-loop-version l = l.left.items ≡ filter_map (found_below (vector_has l.below) l.self.revisions) (take l.version-index l.version-items)
