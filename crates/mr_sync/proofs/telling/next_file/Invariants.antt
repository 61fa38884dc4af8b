use Rattle.std.proofs.Common.{IsTrue}
use Rattle.mr_folder.specs.Tree.{IsUntouched}
use Rattle.mr_sync.proofs.telling.next_file.Given as goal

-- nothing was written
abbrev pub invariant-loop : goal.invariant-loop
invariant-loop g l = IsTrue g.F.FileTree.is_told → IsUntouched g.F.FileTree.seen g.F.FileTree.may_leave g.F.FileTree.moment g.F.FileTree.left_since l.fn.files l.files
