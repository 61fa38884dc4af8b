-- notes as they are read
use Rattle.std.specs.Prelude.{ℕ, ◌==◌, if◌then◌else◌, List, Option, None}
use Rattle.std.specs.Int.{w32, w64}
use Rattle.mr_version.specs.Name.{Name}
use Rattle.mr_wire.specs.Parts.{author_at, name_at}
use Rattle.mr_wire.specs.Prefixed.{whole_at}
use Rattle.mr_wire.specs.Reading.{Reader, number_at, bytes_at, as_at, then_at, counted_at, run_at}
use Rattle.mr_compare.specs.Shown.{ShownParts}
use Rattle.mr_compare.specs.declared.note.Meeting.{Meeting}
use Rattle.mr_compare.specs.declared.note.FolderNote.{FolderNote}
use Rattle.mr_compare.specs.declared.note.FolderNote.TheVariants.{Shown, Met}

-- so many items
abbrev pub items_run : ℕ → Reader (List Name)
items_run = run_at (λ (_ : ℕ). name_at) (λ _ _. 0) 0

abbrev pub shown_at : Reader ShownParts
shown_at = as_at (λ p. record { entries = p.0; lacking = p.1 }) (then_at (number_at w64) (λ _. counted_at (number_at w32) items_run))

abbrev pub meeting_at : Reader Meeting
meeting_at =
    as_at (λ p. record { id = p.0; birth = p.1.0; mine = p.1.1.0; theirs = p.1.1.1.0; time = p.1.1.1.1 })
    (then_at author_at (λ _. then_at (bytes_at 16) (λ _. then_at (bytes_at 32) (λ _. then_at (bytes_at 32) (λ _. number_at w64)))))

-- the note of this kind that the bytes are
abbrev pub note_read : ℕ → List ℕ → Option FolderNote
note_read kind bytes =
    if kind == 1 then whole_at (as_at Shown shown_at) bytes
    else (if kind == 2 then whole_at (as_at Met meeting_at) bytes
    else None)
