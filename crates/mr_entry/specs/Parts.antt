-- what stands behind the kind of an event or an entry, as it is read
use Rattle.std.specs.Prelude.{ℕ, ◌==◌, if◌then◌else◌, List, Some, None}
use Rattle.std.specs.Int.{w8, w32, w64}
use Rattle.std.specs.Str.{is_utf8}
use Rattle.mr_version.specs.Name.{Name}
use Rattle.mr_wire.specs.declared.kind.Kind.{Kind}
use Rattle.mr_wire.specs.declared.frame.Frame.{Frame}
use Rattle.mr_wire.specs.Kinds.{kind_of_byte}
use Rattle.mr_wire.specs.Reading.{Reader, ◌>>=◌, number_at, bytes_at, only_at, as_at, then_at, counted_at, run_at}
use Rattle.mr_wire.specs.Parts.{author_at, name_at, message_at}
use Rattle.mr_wire.specs.FrameParts.{ask_at, frame_at, receipt_at}
use Rattle.mr_replica.specs.declared.event.Event.{Event}
use Rattle.mr_replica.specs.declared.event.Event.TheVariants.{Create, Edit, Retire, Pull, Receive, CutIn, Answer, Next, CutOut, Vouch, Release}
use Rattle.mr_entry.specs.Head.{HeadParts}
use Rattle.mr_entry.specs.Note.{NoteParts}

-- ---- events

-- so many versions
abbrev pub versions_run : ℕ → Reader (List Name)
versions_run = run_at (λ (_ : ℕ). name_at) (λ _ _. 0) 0

-- versions behind their count
abbrev pub versions_at : Reader (List Name)
versions_at = counted_at (number_at w32) versions_run

-- an edit: bases, message
abbrev pub edit_at : Reader Event
edit_at = as_at (λ p. Edit p.0 p.1) (then_at versions_at (λ _. message_at))

-- the kind of a frame
abbrev pub frame_kind_at : Reader Kind
frame_kind_at bytes = number_at w8 bytes >>= λ byte. kind_of_byte 2 byte.0 >>= λ k. Some (k, byte.1)

-- a frame: its kind, and what stands behind that
abbrev pub framed_at : Reader Frame
framed_at bytes = frame_kind_at bytes >>= λ k. frame_at k.0 k.1

-- what stands behind this kind byte: 0 to 10
abbrev pub event_at : ℕ → Reader Event
event_at kind bytes =
    if kind == 0 then as_at Create message_at bytes
    else (if kind == 1 then edit_at bytes
    else (if kind == 2 then Some (Retire, bytes)
    else (if kind == 3 then Some (Pull, bytes)
    else (if kind == 4 then as_at Receive framed_at bytes
    else (if kind == 5 then as_at CutIn (number_at w64) bytes
    else (if kind == 6 then as_at Answer ask_at bytes
    else (if kind == 7 then as_at Next (number_at w64) bytes
    else (if kind == 8 then as_at CutOut (number_at w64) bytes
    else (if kind == 9 then as_at Vouch name_at bytes
    else (if kind == 10 then as_at Release receipt_at bytes
    else None))))))))))

-- ---- entries

-- bytes behind their length
abbrev pub counted_bytes_at : Reader (List ℕ)
counted_bytes_at = counted_at (number_at w32) bytes_at

-- a text behind its length
abbrev pub filter_text_at : Reader (List ℕ)
filter_text_at = only_at is_utf8 counted_bytes_at

-- a head behind the number of its format: id, event limit, birth, mark, the filter's text
abbrev pub head_at : Reader HeadParts
head_at =
    as_at (λ p. record { id = p.0; event_limit = p.1.0; birth = p.1.1.0; mark = p.1.1.1.0; filter = p.1.1.1.1 })
    (then_at author_at (λ _. then_at (number_at w32) (λ _. then_at (bytes_at 16) (λ _. then_at (bytes_at 32) (λ _. filter_text_at)))))

-- a stream, and how many Nexts of it
abbrev pub nexts_at : Reader (ℕ × ℕ)
nexts_at = then_at (number_at w64) (λ _. number_at w32)

-- a note: its kind, and its bytes behind their length
abbrev pub note_at : Reader NoteParts
note_at = as_at (λ p. record { kind = p.0; bytes = p.1 }) (then_at (number_at w8) (λ _. counted_bytes_at))
