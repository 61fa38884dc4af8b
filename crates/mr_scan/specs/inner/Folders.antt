-- the folders of a Maildir, as they are found one after the other
use Rattle.std.specs.Prelude.{if◌then◌else◌, List, [], ◌∷◌, ◌++◌, Option, Some, None}
use Rattle.mr_scan.specs.Folders.{FolderParts, has_folder}

-- the folders with one more, unless one has its label already
abbrev pub with_folder : List FolderParts → Option FolderParts → List FolderParts
with_folder folders None = folders
with_folder folders (Some folder) = if has_folder folders folder.label then folders else folders ++ folder ∷ []
