-- where folders lie below the Maildir
use Rattle.std.specs.Prelude.{◌≡◌, ℕ, Bool, not, ◌==◌, ◌&&◌, nat_le, IsTrue, if◌then◌else◌, List, [], ◌∷◌, length, slice_index, codes, Option, Some, None}
use Rattle.std.specs.List.{list_all, slice_split, join_with_byte}
use Rattle.mr_mail.specs.Label.{text_eq}
use Rattle.mr_maildir.specs.Path.{is_path_byte, IsPathPart}
use Rattle.mr_maildir.specs.Folder.{label_of, is_safe_folder, is_part_name}
use Rattle.mr_maildir.specs.declared.layout.Layout.{Layout}
use Rattle.mr_maildir.specs.declared.layout.Layout.TheVariants.{Dots, Plain}

-- the parts of a text, which are cut at each such byte
abbrev pub cut_at : ℕ → List ℕ → List (List ℕ)
cut_at c text = slice_split (λ b. b == c) text

-- a level of a folder's name may be a folder of its own: it is not empty, and not one of the three parts of a folder
abbrev pub is_level : List ℕ → Bool
is_level level = nat_le 1 (length level) && not (is_part_name level)

-- a level as a path has it
abbrev pub is_path_level : List ℕ → Bool
is_path_level level = is_level level && not (slice_index level 0 == 46) && list_all is_path_byte level

-- whether a folder of this name may be made
abbrev pub admits : Layout → List ℕ → Bool
admits Dots name = is_safe_folder name
admits Plain name = is_safe_folder name && list_all is_level (cut_at 46 name)

-- a dot and the name, or the levels of the name with slashes in place of the dots between them
abbrev pub path_of : Layout → List ℕ → List ℕ
path_of Dots name = 46 ∷ name
path_of Plain name = join_with_byte 47 (cut_at 46 name)

-- the name of the label's folder: the one that was told, if it may be that, else the label, or the label of its name
abbrev pub name_for : Layout → List ℕ → Option (List ℕ) → List ℕ
name_for layout label None = label_of label
name_for layout label (Some told) = if admits layout told && text_eq (label_of told) label then told else label_of label

-- the path of the label's folder: none for the Maildir itself
abbrev pub folder_path : Layout → List ℕ → Option (List ℕ) → List ℕ
folder_path layout label told = if text_eq label (codes "inbox") then [] else path_of layout (name_for layout label told)

-- whether a level is of a path that is read as a name: it has no dot
abbrev pub is_read_level : List ℕ → Bool
is_read_level level = is_level level && list_all (λ b. not (b == 46)) level

-- the name behind a dot
abbrev pub dotted_name : List ℕ → Option (List ℕ)
dotted_name [] = None
dotted_name (b ∷ name) = if (b == 46) && nat_le 1 (length name) && list_all (λ b. not (b == 47)) name then Some name else None

-- the name of the folder at a path, if the layout makes such a path
abbrev pub name_at : Layout → List ℕ → Option (List ℕ)
name_at Dots path = dotted_name path
name_at Plain path = if list_all is_read_level (cut_at 47 path) then Some (join_with_byte 46 (cut_at 47 path)) else None

-- a path stays below the Maildir, and shows what it is: a dot and one part of a path, or such parts with slashes
-- between them, of which none is `cur`, `new` or `tmp`
abbrev pub IsFolderPath : Layout → List ℕ → Type 0
IsFolderPath Dots path = (name : List ℕ) × (path ≡ 46 ∷ name) × IsPathPart name
IsFolderPath Plain path = IsTrue (list_all is_path_level (cut_at 47 path))
