-- room for a file that gets a path
use Rattle.std.specs.Prelude.{◌≡◌, ℕ, List, None, IsTrue, is_some}
use Rattle.mr_folder.specs.Tree.{Tree}

-- there is a file at the first path and none at the second
pub record HasRoom (from to : List ℕ) (tree : Tree) : Type 0 where
  pub there : IsTrue (is_some (tree from))
  pub free : tree to ≡ None
