-- folders in memory that change once: what is in them at each moment
use Rattle.std.specs.Prelude.{ℕ, ◌≤◌, List, [], if◌then◌else◌, ◌==◌, slice_index_or}
use Rattle.std.proofs.Common.{sym, ap, subst}
use Rattle.std.proofs.Math.Nat.{le_antisymm}
use Rattle.mr_folder.specs.Quiet.{Past, TellsChanges, texts}
use Rattle.mr_folder.specs.declared.memory_folders.MemoryFolders.{MemoryFolders}

-- the names in a folder, before the change and after it
abbrev pub names_at : MemoryFolders → ℕ → ℕ → List (List ℕ)
names_at folders moment folder = slice_index_or (texts (if moment == 0 then folders.before.items else folders.after.items)) folder []

-- each moment has a time of its own
abbrev pub past_of : MemoryFolders → Past
past_of folders = record { names = names_at folders; time = λ moment _. moment }

-- a moment with the same time is the same moment
pub tells : (folders : MemoryFolders) → TellsChanges (past_of folders)
tells folders = λ folder i k j i_k k_j same. ap (λ m. names_at folders m folder) (le_antisymm (subst (λ n. k ≤ n) (sym same) k_j) i_k)
