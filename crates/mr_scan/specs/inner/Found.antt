-- the files of a listing
use Rattle.std.specs.Prelude.{ℕ, Bool, true, false, ◌==◌, ◌/◌, ◌%◌, if◌then◌else◌, List, Option, option_map, slice_get}
use Rattle.mr_folder.specs.declared.path.Part.{Part}
use Rattle.mr_folder.specs.declared.path.Part.TheVariants.{Cur, New}
use Rattle.mr_scan.specs.Folders.{FolderParts}

-- whether it is the part with mail that no program has looked at
abbrev pub is_of_new : Part → Bool
is_of_new Cur = false
is_of_new New = true

-- which part of which folder a listing has at a place: `cur` of the folder k at 2k, and `new` behind it
abbrev pub part_at : List FolderParts → ℕ → Option (FolderParts × Part)
part_at folders place = option_map (λ folder. (folder, (if place % 2 == 0 then Cur else New))) (slice_get folders (place / 2))
