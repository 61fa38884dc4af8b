-- the notes of an open folder, and their bytes
use Rattle.std.specs.Prelude.{◌≡◌, ◌<◌, ◌^◌, ℕ, All, List, ◌++◌, length}
use Rattle.std.specs.List.{flat_map}
use Rattle.mr_version.specs.declared.author.TheConstants.{AUTHORS}
use Rattle.mr_wire.specs.Grammar.{IsItem}
use Rattle.mr_wire.specs.Spelling.{u16, u32, u64, name_bytes}
use Rattle.mr_compare.specs.Shown.{ShownParts}
use Rattle.mr_compare.specs.declared.note.Meeting.{Meeting}
use Rattle.mr_compare.specs.declared.note.FolderNote.{FolderNote}
use Rattle.mr_compare.specs.declared.note.FolderNote.TheVariants.{Shown, Met}

-- the entries that are shown, and the items that lack their file behind their count
abbrev pub shown_bytes : ShownParts → List ℕ
shown_bytes s = u64 s.entries ++ (u32 (length s.lacking) ++ flat_map name_bytes s.lacking)

-- the other's id and birth, the digests of what this one and the other knew, and the time
abbrev pub meeting_bytes : Meeting → List ℕ
meeting_bytes m = u16 m.id ++ (m.birth ++ (m.mine ++ (m.theirs ++ u64 m.time)))

abbrev pub note_kind : FolderNote → ℕ
note_kind (Shown s) = 1
note_kind (Met m) = 2

abbrev pub note_bytes : FolderNote → List ℕ
note_bytes (Shown s) = shown_bytes s
note_bytes (Met m) = meeting_bytes m

-- each part is one that can be written
pub record IsShown (s : ShownParts) : Type 0 where
  pub entries_in : s.entries < 2 ^ 64
  pub few : length s.lacking < 2 ^ 32
  pub items_in : All IsItem s.lacking

pub record IsMeeting (m : Meeting) : Type 0 where
  pub id_in : m.id < AUTHORS
  pub birth_in : length m.birth ≡ 16
  pub mine_in : length m.mine ≡ 32
  pub theirs_in : length m.theirs ≡ 32
  pub time_in : m.time < 2 ^ 64

abbrev pub IsNote : FolderNote → Type 0
IsNote (Shown s) = IsShown s
IsNote (Met m) = IsMeeting m

-- the bytes behind this kind are the note
pub record Spells (note : FolderNote) (kind : ℕ) (bytes : List ℕ) : Type 0 where
  pub in_grammar : IsNote note
  pub kind_is : kind ≡ note_kind note
  pub written : bytes ≡ note_bytes note
