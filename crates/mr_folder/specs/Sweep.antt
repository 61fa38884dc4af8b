-- what takes files out of the store
use Rattle.std.specs.Prelude.{◌≡◌, ◌⊎◌, ℕ, List, None, Contains}
use Rattle.mr_folder.specs.Inside.{stored_path}
use Rattle.mr_folder.specs.Names.{IsDigest}
use Rattle.mr_folder.specs.Tree.{Tree, LeavesOnly}

-- the path is that of a digest which isn't held
pub record IsUnheld (held : List (List ℕ)) (path : List ℕ) : Type 0 where
  pub digest : List ℕ
  pub is : IsDigest digest
  pub unheld : ¬ (Contains held digest)
  pub path_is : path ≡ stored_path digest

-- each file is as it was, but that of a digest which isn't held may be gone
abbrev pub MaySweep : List (List ℕ) → Tree → Tree → Type 0
MaySweep held old new = (path : List ℕ) → (new path ≡ old path) ⊎ (IsUnheld held path × (new path ≡ None))

-- what a crash may have left before, after a sweep
abbrev pub SweptFrom : List (List ℕ) → (Tree → Type 0) → Tree → Type 0
SweptFrom held before c = (d : Tree) × before d × MaySweep held d c

-- only that was done to the files, to what a crash leaves from now on, and to what it left at any moment between
pub record SweepsOnly {F : Type 0} (seen : F → Tree) (may_leave : F → Tree → Type 0) (moment : F → ℕ) (left_since : F → ℕ → Tree → Type 0) (held : List (List ℕ)) (old new : F) : Type 0 where
  pub files : MaySweep held (seen old) (seen new)
  pub crash : (c : Tree) → may_leave new c → SweptFrom held (may_leave old) c
  pub moments : LeavesOnly moment left_since old new (SweptFrom held (may_leave old))
