-- what is found of files in memory, and their names in the store
use Rattle.std.specs.Prelude.{ℕ, if◌then◌else◌, List, Option, Some, None, codes, drop, nat_eq, is_some}
use Rattle.std.specs.List.{starts_with}
use Rattle.mr_folder.specs.Memory.{Step, Puts, Moves, Links, Goes, Syncs, SyncsPath}
use Rattle.mr_folder.specs.Tree.{Tree}
use Rattle.mr_folder.specs.declared.memory.Found.{Found}
use Rattle.mr_folder.specs.declared.memory.Found.TheVariants.{Bytes, Nothing, At}

-- what is found of a file, where it may have been elsewhere before
abbrev pub found_in : Tree → Found → Option (List ℕ)
found_in tree (Bytes bytes) = Some bytes.now.items
found_in tree Nothing = None
found_in tree (At path) = tree path.now

-- the path at which a step may put a file
abbrev pub target : Step → List ℕ
target (Puts path bytes) = path
target (Moves from to) = to
target (Links from to) = to
target (Goes path) = path
target (Syncs path) = path
target (SyncsPath path) = path

-- a path's name in the store's folder
abbrev pub behind_store : List ℕ → Option (List ℕ)
behind_store path = if starts_with nat_eq path (codes ".mailfold/files/") then Some (drop 16 path) else None

-- a path's name in the store's folder, if there is a file
abbrev pub stored_name : Tree → List ℕ → Option (List ℕ)
stored_name tree path = if is_some (tree path) then behind_store path else None
