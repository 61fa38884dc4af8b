-- the lines of a mail's body that tell more
use Rattle.std.specs.Prelude.{◌≡◌, ℕ, Bool, true, false, not, ◌&&◌, ◌==◌, nat_eq, if◌then◌else◌, List, [], ◌∷◌, ◌++◌, codes, map, Option, Some, None, is_some, option_map, string_bytes}
use Rattle.std.specs.List.{list_all, starts_with}
use Rattle.std.specs.Ordering.{is_lt}
use Rattle.mr_version.specs.Name.{Name}
use Rattle.mr_mail.specs.Label.{is_label, text_cmp, text_eq}
use Rattle.mr_joins.specs.declared.mark.Mark.{Mark}
use Rattle.mr_maildir.specs.Counts.{counts_lines, is_mark}
use Rattle.mr_maildir.specs.Folder.{is_name_for, is_plain}
use Rattle.mr_maildir.specs.Name.{is_safe_name}
use Rattle.mr_maildir.specs.Told.{behind_key, folder_key, name_key}
use Rattle.mr_maildir.specs.declared.lines.FolderName.{FolderName}
use Rattle.mr_maildir.specs.declared.lines.MailLines.{MailLines}

-- a folder's label, which is a digest, and the name that has it
pub record FolderParts : Type 0 where
  pub label : List ℕ
  pub name : List ℕ

abbrev pub folder_of : FolderName → FolderParts
folder_of f = record { label = f.label; name = string_bytes f.name }

-- the name of the file, the names of folders, what was toggled, and all else
pub record LinesParts : Type 0 where
  pub name : Option (List ℕ)
  pub folders : List FolderParts
  pub marks : List Mark
  pub others : List (List ℕ)

abbrev pub lines_of : MailLines → LinesParts
lines_of l = record { name = option_map string_bytes l.name; folders = map folder_of l.folders.items; marks = l.marks.items; others = map string_bytes l.others.items }

-- the name that is told of a label's folder
abbrev pub name_of : List ℕ → List FolderParts → Option (List ℕ)
name_of label [] = None
name_of label (f ∷ folders) = if text_eq f.label label then Some f.name else name_of label folders

-- ---- each kind of line

-- a name that may be taken from others, of a label that is not the name itself
abbrev pub is_folder : FolderParts → Bool
is_folder f = is_label f.label && is_name_for f.label f.name && not (is_plain f.name)

abbrev pub name_line : List ℕ → List ℕ
name_line name = name_key ++ name

abbrev pub folder_line : FolderParts → List ℕ
folder_line f = folder_key f.label ++ f.name

-- what stands in front of the first such byte, and behind it
abbrev pub before_byte : ℕ → List ℕ → List ℕ
before_byte c [] = []
before_byte c (b ∷ rest) = if b == c then [] else b ∷ before_byte c rest

abbrev pub behind_byte : ℕ → List ℕ → List ℕ
behind_byte c [] = []
behind_byte c (b ∷ rest) = if b == c then rest else behind_byte c rest

abbrev pub folder_told : List ℕ → FolderParts
folder_told text = record { label = before_byte 32 text; name = behind_byte 32 text }

-- the name that a line tells, and the folder
abbrev pub name_in_line : Option (List ℕ) → Option (List ℕ)
name_in_line None = None
name_in_line (Some name) = if is_safe_name name then Some name else None

abbrev pub name_in : List ℕ → Option (List ℕ)
name_in line = name_in_line (behind_key name_key line)

abbrev pub folder_in_line : Option (List ℕ) → Option FolderParts
folder_in_line None = None
folder_in_line (Some text) = if is_folder (folder_told text) then Some (folder_told text) else None

abbrev pub folder_in : List ℕ → Option FolderParts
folder_in line = folder_in_line (behind_key (codes "folder ") line)

-- a line of counts, whatever it tells
abbrev pub is_counts_line : List ℕ → Bool
is_counts_line line = starts_with nat_eq line (codes "counts ")

-- a line that this program doesn't know: it has no newline
abbrev pub is_other_line : List ℕ → Bool
is_other_line line = not (is_some (name_in line)) && not (is_some (folder_in line)) && not (is_counts_line line) && list_all (λ b. not (b == 10)) line

-- ---- all of them

abbrev pub name_lines : Option (List ℕ) → List (List ℕ)
name_lines None = []
name_lines (Some name) = name_line name ∷ []

-- the lines in their order, in a record of the own item
abbrev pub told_lines : Name → LinesParts → List (List ℕ)
told_lines own l = name_lines l.name ++ (map folder_line l.folders ++ (counts_lines own l.marks ++ l.others))

-- each folder's label is below the next one's
abbrev pub rise_from : List ℕ → List FolderParts → Bool
rise_from label [] = true
rise_from label (f ∷ folders) = is_lt (text_cmp label f.label) && rise_from f.label folders

abbrev pub are_rising : List FolderParts → Bool
are_rising [] = true
are_rising (f ∷ folders) = rise_from f.label folders

abbrev pub is_some_name : Option (List ℕ) → Bool
is_some_name None = true
is_some_name (Some name) = is_safe_name name

-- what lines may tell
pub record AreLines (l : LinesParts) : Type 0 where
  pub name_in : is_some_name l.name ≡ true
  pub folders_in : list_all is_folder l.folders ≡ true
  pub folders_rise : are_rising l.folders ≡ true
  pub marks_in : list_all is_mark l.marks ≡ true
  pub others_in : list_all is_other_line l.others ≡ true
