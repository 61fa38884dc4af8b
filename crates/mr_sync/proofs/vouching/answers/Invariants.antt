use Rattle.std.proofs.Common.{IsTrue}
use Rattle.mr_folder.specs.Tree.{IsUntouched}
use Rattle.mr_sync.proofs.Names.{All, PushOut}
use Rattle.mr_sync.specs.inner.Vouching.{IsVouchedFor}
use Rattle.mr_sync.proofs.vouching.answers.Given as goal

-- what was found answers and has its file, and nothing was written
abbrev pub invariant-loop-head : goal.invariant-loop-head
invariant-loop-head g l = IsTrue g.F.FileTree.is_told → record {
  found : All (λ (p : PushOut). IsVouchedFor g.F.FileTree.seen g.F.FileTree.may_leave l.fn.heads l.fn.waiting l.files p.version) l.out.items;
  untouched : IsUntouched g.F.FileTree.seen g.F.FileTree.may_leave g.F.FileTree.moment g.F.FileTree.left_since l.fn.files l.files;
}
