use Rattle.std.proofs.Common.{◌≡◌, ◌≤◌, take}
use Rattle.mr_store.proofs.Names.{AreInVersionOrder, filter, leaves}
use Rattle.mr_store.proofs.RevisionLemmas.{is_none_of}
use Rattle.mr_store.proofs.revision_list.remove_listed.Given as goal

-- the versions looked at so far that are below are taken out
abbrev pub invariant-loop-version : goal.invariant-loop-version
invariant-loop-version l = record {
  items : l.revisions.items ≡ filter (is_none_of (take l.version-index l.versions) (leaves l.ones l.below)) l.initial.revisions.items;
  in_order : AreInVersionOrder l.revisions.items;
  spare : l.initial.revisions.spare ≤ l.revisions.spare;
}
