-- tests of paths
use Rattle.std.proofs.Common.{ℕ, Bool, true, not, ◌&&◌, List, [], ◌∷◌}
use Rattle.std.specs.Prelude.{◌==◌, codes}
use Rattle.std.specs.List.{list_all, slice_split}
use Rattle.std.specs.Str.{bytes_eq}
use Rattle.mr_folder.specs.Inside.{is_part_byte, first_part, own_folder}

-- whether it is a part of a path
abbrev pub is_part_text : List ℕ → Bool
is_part_text text = not (bytes_eq text []) && (not (bytes_eq text (codes ".")) && (not (bytes_eq text (codes "..")) && list_all is_part_byte text))

-- the parts of a path
abbrev pub parts_of : List ℕ → List (List ℕ)
parts_of path = slice_split (λ b. b == 47) path

-- whether it leads to a folder of the Maildir
abbrev pub is_folder_text : List ℕ → Bool
is_folder_text [] = true
is_folder_text (b ∷ rest) = list_all is_part_text (parts_of (b ∷ rest)) && not (bytes_eq (first_part (b ∷ rest)) own_folder)
