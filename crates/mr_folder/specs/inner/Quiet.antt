-- the folders of a listing, as they are read one after the other
use Rattle.std.specs.Prelude.{◌≡◌, ℕ, ◌<◌, List, [], length, slice_index, slice_index_or}
use Rattle.mr_folder.specs.Quiet.{Past, IsStill, Between}

-- the time that was read of each folder is one that it had between two moments
abbrev pub AreTimes : Past → ℕ → ℕ → List ℕ → Type 0
AreTimes past from to times = (folder : ℕ) → folder < length times → Between from to (λ m. slice_index times folder ≡ past.time m folder)

-- the names that were read of each folder are those that it had, if it was still meanwhile
abbrev pub AreNames : Past → ℕ → ℕ → List (List (List ℕ)) → Type 0
AreNames past from to names = (folder : ℕ) → folder < length names → IsStill past folder from to → slice_index_or names folder [] ≡ past.names from folder
