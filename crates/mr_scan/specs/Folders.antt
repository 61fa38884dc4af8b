-- the folders of a Maildir and their labels
use Rattle.std.specs.Prelude.{ℕ, Bool, true, not, ◌==◌, ◌&&◌, ◌||◌, if◌then◌else◌, false, length, List, [], ◌∷◌, codes, filter, find, Option, Some, None, option_map, string_bytes}
use Rattle.std.specs.List.{filter_map, list_all, list_any}
use Rattle.mr_mail.specs.Label.{text_eq}
use Rattle.mr_maildir.specs.Folder.{label_of}
use Rattle.mr_maildir.specs.Layout.{folder_path, name_at}
use Rattle.mr_maildir.specs.declared.layout.Layout.{Layout}
use Rattle.mr_maildir.specs.declared.layout.Layout.TheVariants.{Dots, Plain}
use Rattle.mr_scan.specs.declared.folders.MailFolder.{MailFolder}

-- a folder: its path below the Maildir, its label and its name
pub record FolderParts : Type 0 where
  pub path : List ℕ
  pub label : List ℕ
  pub name : List ℕ

abbrev pub folder_parts : MailFolder → FolderParts
folder_parts folder = record { path = folder.path; label = folder.label; name = string_bytes folder.name }

-- the folders of a Maildir, how they lie below it, and the paths that were passed over
pub record TableParts : Type 0 where
  pub layout : Layout
  pub folders : List FolderParts
  pub passed_over : List (List ℕ)

-- the folder at a path, if the layout has one there: the Maildir itself is the inbox
abbrev pub folder_there : Layout → List ℕ → Option FolderParts
folder_there layout [] = Some (record { path = []; label = codes "inbox"; name = codes "inbox" })
folder_there layout (b ∷ path) = option_map (λ name. record { path = b ∷ path; label = label_of name; name = name }) (name_at layout (b ∷ path))

-- the first folder of each label
abbrev pub first_of_each : List FolderParts → List FolderParts
first_of_each [] = []
first_of_each (folder ∷ folders) = folder ∷ filter (λ other. not (text_eq other.label folder.label)) (first_of_each folders)

abbrev pub folders_there : Layout → List (List ℕ) → List FolderParts
folders_there layout paths = first_of_each (filter_map (folder_there layout) paths)

-- whether one of the folders lies at the path
abbrev pub is_path_of : List FolderParts → List ℕ → Bool
is_path_of folders path = list_any (λ folder. text_eq folder.path path) folders

-- the paths that became no folder, in their order
abbrev pub paths_passed_over : Layout → List (List ℕ) → List (List ℕ)
paths_passed_over layout paths = filter (λ path. not (is_path_of (folders_there layout paths) path)) paths

-- the folder of a label
abbrev pub folder_of : List FolderParts → List ℕ → Option FolderParts
folder_of folders label = find (λ folder. text_eq folder.label label) folders

abbrev pub has_folder : List FolderParts → List ℕ → Bool
has_folder folders label = list_any (λ folder. text_eq folder.label label) folders

-- whether each folder has a label of its own
abbrev pub are_apart : List FolderParts → Bool
are_apart [] = true
are_apart (folder ∷ folders) = not (has_folder folders folder.label) && are_apart folders

-- a folder's path, if it is there, else this one
abbrev pub path_or : Option FolderParts → List ℕ → List ℕ
path_or None path = path
path_or (Some folder) path = folder.path

-- the path of a label's folder: of the one that is there, else the one that the layout gives it
abbrev pub path_given : TableParts → List ℕ → Option (List ℕ) → List ℕ
path_given table label told = path_or (folder_of table.folders label) (folder_path table.layout label told)

abbrev pub begins_with_dot : List ℕ → Bool
begins_with_dot [] = false
begins_with_dot (b ∷ path) = b == 46

-- folders with dots, or none but the Maildir itself
abbrev pub layout_of : List (List ℕ) → Layout
layout_of paths = if list_any begins_with_dot paths || list_all (λ path. length path == 0) paths then Dots else Plain
