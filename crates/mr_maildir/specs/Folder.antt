-- folders and their labels
use Rattle.std.specs.Prelude.{ℕ, Bool, not, ◌==◌, ◌&&◌, ◌||◌, nat_le, if◌then◌else◌, List, ◌++◌, length, take, slice_index, codes, Option, Some, None}
use Rattle.std.specs.List.{list_all}
use Rattle.hex.specs.Hex.{encode_lower}
use Rattle.sha2.specs.Sha256.{sha256}
use Rattle.mr_mail.specs.Label.{is_label, text_eq}
use Rattle.mr_maildir.specs.Path.{is_path_byte}

-- the names of a folder's three parts
abbrev pub is_part_name : List ℕ → Bool
is_part_name name = text_eq name (codes "cur") || text_eq name (codes "new") || text_eq name (codes "tmp")

-- the label of the Maildir itself, the name of the program's own folder, and those of a folder's parts
abbrev pub is_kept_name : List ℕ → Bool
is_kept_name name = text_eq name (codes "inbox") || text_eq name (codes "mailfold") || is_part_name name

-- a name that is its folder's label
abbrev pub is_plain : List ℕ → Bool
is_plain name = is_label name && not (is_kept_name name)

-- `f-` and 30 digits of the name's digest
abbrev pub digest_label : List ℕ → List ℕ
digest_label name = codes "f-" ++ encode_lower (take 15 (sha256 name))

-- the label of the folder of this name
abbrev pub label_of : List ℕ → List ℕ
label_of name = if is_plain name then name else digest_label name

-- one to 200 bytes without control characters and `/`, of which the first is no dot, and not the program's own
abbrev pub is_safe_folder : List ℕ → Bool
is_safe_folder text = nat_le 1 (length text) && nat_le (length text) 200 && not (slice_index text 0 == 46) && list_all is_path_byte text && not (text_eq text (codes "mailfold"))

-- whether the name may be that of the label's folder
abbrev pub is_name_for : List ℕ → List ℕ → Bool
is_name_for label name = is_safe_folder name && text_eq (label_of name) label

-- the name of a label's folder: the one that was told, if it may be that, else the label or, in its place, the label of its name
abbrev pub folder_name : List ℕ → Option (List ℕ) → List ℕ
folder_name label None = label_of label
folder_name label (Some told) = if is_name_for label told then told else label_of label
