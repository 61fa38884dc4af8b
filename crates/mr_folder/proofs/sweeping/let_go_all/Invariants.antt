use Rattle.std.proofs.Common.{◌≡◌, ◌<◌, ℕ, List, IsTrue, Contains, None, slice_index_or}
use Rattle.mr_folder.proofs.Names.{SweepsOnly, stored_path}
use Rattle.mr_folder.proofs.sweeping.let_go_all.Given as goal

abbrev pub invariant-loop-digest : goal.invariant-loop-digest
invariant-loop-digest g l = record {
  only : IsTrue g.F.FileTree.is_told → SweepsOnly g.F.FileTree.seen g.F.FileTree.may_leave g.F.FileTree.moment g.F.FileTree.left_since l.held l.fn.files l.files;
  gone : IsTrue g.F.FileTree.is_told → (k : ℕ) (digest : List ℕ) → k < l.digest-index → slice_index_or l.digests k digest ≡ digest → ¬ (Contains l.held digest) → g.F.FileTree.seen l.files (stored_path digest) ≡ None;
}
