-- whole notes as they are read, kept or not
use Rattle.std.specs.Prelude.{◌≡◌, ℕ, List, IfSome, Option, Some, None}
use Rattle.std.specs.Global.{Vec}
use Rattle.mr_version.specs.Name.{Name}
use Rattle.mr_compare.specs.declared.note.FolderNote.{FolderNote}
use Rattle.mr_compare.specs.NoteParts.{note_read}

-- what was read is found, and kept or not
abbrev pub FindsWhole : Option FolderNote → Option (Option FolderNote) → Type 0
FindsWhole read None = read ≡ None
FindsWhole read (Some kept) = (n : FolderNote) × (read ≡ Some n) × IfSome kept (λ k. k ≡ n)

abbrev pub FindsNote : ℕ → List ℕ → Option (Option FolderNote) → Type 0
FindsNote kind bytes found = FindsWhole (note_read kind bytes) found

-- there are items, and this holds of them
abbrev pub HasItems : Option (Vec Name) → (List Name → Type 0) → Type 0
HasItems None P = ⊥
HasItems (Some v) P = P v.items

-- what was found is kept
abbrev pub IsKept : Option (Option FolderNote) → Option FolderNote → Type 0
IsKept None kept = kept ≡ None
IsKept (Some None) kept = ⊥
IsKept (Some (Some note)) kept = kept ≡ Some note
