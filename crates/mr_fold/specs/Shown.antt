-- the note of what is shown
use Rattle.std.specs.Prelude.{ℕ, List}
use Rattle.mr_version.specs.Name.{Name}
use Rattle.mr_entry.specs.Note.{NoteParts}
use Rattle.mr_compare.specs.Note.{shown_bytes}

-- that so many entries are shown, but for these items
abbrev pub shown_note : ℕ → List Name → NoteParts
shown_note entries lacking = record { kind = 1; bytes = shown_bytes (record { entries = entries; lacking = lacking }) }
