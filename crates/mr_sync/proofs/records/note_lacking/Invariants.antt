use Rattle.std.proofs.Common.{IsTrue}
use Rattle.std.specs.List.{AllWithin}
use Rattle.mr_folder.specs.Tree.{IsUntouched}
use Rattle.mr_sync.specs.Named.{HasOrListsOf}
use Rattle.mr_sync.specs.Taken.{AllStay}
use Rattle.mr_sync.proofs.records.note_lacking.Given as goal

-- what the frames so far need is there or on the list, what was on the list is, and nothing was written
abbrev pub invariant-loop-frame : goal.invariant-loop-frame
invariant-loop-frame g l = record {
  named : IsTrue g.F.FileTree.is_told → AllWithin (HasOrListsOf (g.F.FileTree.seen l.files) l.lacking.keys) l.frames 0 l.frame-index;
  stay : AllStay l.fn.lacking.keys l.lacking.keys;
  untouched : IsTrue g.F.FileTree.is_told → IsUntouched g.F.FileTree.seen g.F.FileTree.may_leave g.F.FileTree.moment g.F.FileTree.left_since l.fn.files l.files;
}
