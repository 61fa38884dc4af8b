-- how events and entries are spelled
use Rattle.std.specs.Prelude.{ℕ, List, [], ◌∷◌, ◌++◌, length}
use Rattle.std.specs.List.{flat_map}
use Rattle.mr_wire.specs.declared.frame.Frame.{Frame}
use Rattle.mr_wire.specs.declared.frame.Frame.TheVariants as frame
use Rattle.mr_wire.specs.Kinds.{kind_byte as frame_kind_byte}
use Rattle.mr_wire.specs.Spelling.{u8, u16, u32, u64, name_bytes, message_bytes}
use Rattle.mr_wire.specs.FrameSpelling as frames
use Rattle.mr_replica.specs.declared.event.Event.{Event}
use Rattle.mr_replica.specs.declared.event.Event.TheVariants.{Create, Edit, Retire, Pull, Receive, CutIn, Answer, Next, CutOut, Vouch, Release}
use Rattle.mr_entry.specs.Head.{HeadParts}
use Rattle.mr_entry.specs.Note.{NoteParts}
use Rattle.mr_entry.specs.declared.entry.Entry.{Entry}
use Rattle.mr_entry.specs.declared.entry.Entry.TheVariants as entry

-- ---- events

abbrev pub event_kind : Event → ℕ
event_kind (Create message) = 0
event_kind (Edit bases message) = 1
event_kind Retire = 2
event_kind Pull = 3
event_kind (Receive f) = 4
event_kind (CutIn session) = 5
event_kind (Answer q) = 6
event_kind (Next stream) = 7
event_kind (CutOut stream) = 8
event_kind (Vouch version) = 9
event_kind (Release r) = 10

-- a frame: its kind, and what stands behind that
abbrev pub framed_bytes : Frame → List ℕ
framed_bytes f = frame_kind_byte (frames.kind_of f) ∷ frames.part_bytes f

-- what stands behind the kind; of an edit: count of bases, bases, message
abbrev pub event_parts : Event → List ℕ
event_parts (Create message) = message_bytes message
event_parts (Edit bases message) = u32 (length bases) ++ (flat_map name_bytes bases ++ message_bytes message)
event_parts Retire = []
event_parts Pull = []
event_parts (Receive f) = framed_bytes f
event_parts (CutIn session) = u64 session
event_parts (Answer q) = frames.part_bytes (frame.Ask q)
event_parts (Next stream) = u64 stream
event_parts (CutOut stream) = u64 stream
event_parts (Vouch version) = name_bytes version
event_parts (Release r) = frames.part_bytes (frame.Receipt r)

-- what stands behind the length: form, kind, and what the kind has
abbrev pub rest_bytes : Event → List ℕ
rest_bytes e = 1 ∷ event_kind e ∷ event_parts e

-- an event: length, and so many bytes
abbrev pub event_bytes : Event → List ℕ
event_bytes e = u32 (length (rest_bytes e)) ++ rest_bytes e

-- ---- entries

abbrev pub kind_byte : Entry → ℕ
kind_byte (entry.Head h) = 0
kind_byte (entry.Event issued e) = 1
kind_byte (entry.Nexts stream count) = 2
kind_byte (entry.Note n) = 3

-- a head behind its format: id, event limit, birth, mark, the filter's text behind its length
abbrev pub setting_bytes : HeadParts → List ℕ
setting_bytes h = u16 h.id ++ (u32 h.event_limit ++ (h.birth ++ (h.mark ++ (u32 (length h.filter) ++ h.filter))))

-- a note: its kind, and its bytes behind their length
abbrev pub note_bytes : NoteParts → List ℕ
note_bytes n = u8 n.kind ++ (u32 (length n.bytes) ++ n.bytes)

-- what stands behind the kind; of an event the count of versions and the event, of Nexts the stream and how many
abbrev pub part_bytes : Entry → List ℕ
part_bytes (entry.Head h) = u16 1 ++ setting_bytes h
part_bytes (entry.Event issued e) = u32 issued ++ event_bytes e
part_bytes (entry.Nexts stream count) = u64 stream ++ u32 count
part_bytes (entry.Note n) = note_bytes n

-- an entry: its kind, and what the kind has
abbrev pub entry_bytes : Entry → List ℕ
entry_bytes e = kind_byte e ∷ part_bytes e
