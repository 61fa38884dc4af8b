-- what the notes of a folder's journal tell
use Rattle.std.specs.Prelude.{ℕ, ◌==◌, if◌then◌else◌, List, [], fold, Option, Some, None}
use Rattle.std.specs.Map.{lookup}
use Rattle.std.specs.Ordering.{nat_cmp, is_eq}
use Rattle.mr_entry.specs.Note.{NoteParts}
use Rattle.mr_compare.specs.Shown.{ShownParts}
use Rattle.mr_compare.specs.NoteParts.{note_read}
use Rattle.mr_compare.specs.declared.note.Meeting.{Meeting}
use Rattle.mr_compare.specs.declared.note.FolderNote.{FolderNote}
use Rattle.mr_compare.specs.declared.note.FolderNote.TheVariants.{Shown, Met}

-- the folder's note that a note of the journal is
abbrev pub read_of : NoteParts → Option FolderNote
read_of note = note_read note.kind note.bytes

-- before the first note nothing is shown
abbrev pub nothing_shown : ShownParts
nothing_shown = record { entries = 0; lacking = [] }

-- what is shown, once one note more was read
abbrev pub shown_with : ShownParts → Option FolderNote → ShownParts
shown_with shown None = shown
shown_with shown (Some (Shown newer)) = newer
shown_with shown (Some (Met m)) = shown

abbrev pub shown_by : List NoteParts → ShownParts
shown_by notes = fold (λ shown note. shown_with shown (read_of note)) nothing_shown notes

-- the last meeting with a replica, once one note more was read
abbrev pub met_with : Option Meeting → Option FolderNote → ℕ → Option Meeting
met_with last None id = last
met_with last (Some (Shown s)) id = last
met_with last (Some (Met m)) id = if m.id == id then Some m else last

abbrev pub met_by : List NoteParts → ℕ → Option Meeting
met_by notes id = fold (λ last note. met_with last (read_of note) id) None notes

-- the meeting that a table has of an id
abbrev pub meeting_at : List (ℕ × Meeting) → ℕ → Option Meeting
meeting_at table id = lookup (λ own. is_eq (nat_cmp id own)) table
