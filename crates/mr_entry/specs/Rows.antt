-- worked rows: what the definitions of entries give for small values
use Rattle.std.specs.Prelude.{◌≡◌, ℕ, List, [], ◌∷◌, ◌++◌, Ok, Err, codes, refl, replicate}
use Rattle.mr_replica.specs.declared.event.Event.TheVariants.{Pull, Next}
use Rattle.mr_entry.specs.declared.event.fault.EventFault.TheVariants as event
use Rattle.mr_entry.specs.Head.{HeadParts}
use Rattle.mr_entry.specs.Events.{events_of_entry}
use Rattle.mr_entry.specs.Spelling.{entry_bytes}
use Rattle.mr_entry.specs.Decoding.{decoded}
use Rattle.mr_entry.specs.declared.entry.Entry.{Entry}
use Rattle.mr_entry.specs.declared.entry.Entry.TheVariants as entry
use Rattle.mr_entry.specs.declared.fault.EntryFault.TheVariants.{Truncated, BadKind, OtherFormat, BadBody, BadEvent}

-- ---- an entry of each kind

-- the head of replica 3, of at most 1,000 events, that selects the label a
abbrev birth_row : List ℕ
birth_row = replicate 16 5

abbrev mark_row : List ℕ
mark_row = replicate 32 6

abbrev head : HeadParts
head = record { id = 3; event_limit = 1000; birth = birth_row; mark = mark_row; filter = codes "label:a" }

-- kind and format, id, limit, birth, mark, and the text behind its length
abbrev head_row : List ℕ
head_row = 0 ∷ 0 ∷ 1 ∷ 0 ∷ 3 ∷ 0 ∷ 0 ∷ 3 ∷ 232 ∷ birth_row ++ mark_row ++ (0 ∷ 0 ∷ 0 ∷ 7 ∷ 108 ∷ 97 ∷ 98 ∷ 101 ∷ 108 ∷ 58 ∷ 97 ∷ [])

pub head_is : entry_bytes (entry.Head head) ≡ head_row
head_is = refl

-- a Pull once seven versions were issued
abbrev pull_row : List ℕ
pull_row = 1 ∷ 0 ∷ 0 ∷ 0 ∷ 7 ∷ 0 ∷ 0 ∷ 0 ∷ 2 ∷ 1 ∷ 3 ∷ []

pub pull_is : (entry_bytes (entry.Event 7 Pull) ≡ pull_row) × (decoded (pull_row ++ (9 ∷ 9 ∷ [])) ≡ Ok (entry.Event 7 Pull, 11))
pull_is = (refl, refl)

-- three Nexts of stream 4
abbrev nexts_row : List ℕ
nexts_row = 2 ∷ 0 ∷ 0 ∷ 0 ∷ 0 ∷ 0 ∷ 0 ∷ 0 ∷ 4 ∷ 0 ∷ 0 ∷ 0 ∷ 3 ∷ []

pub nexts_is : (entry_bytes (entry.Nexts 4 3) ≡ nexts_row) × (decoded (nexts_row ++ (1 ∷ [])) ≡ Ok (entry.Nexts 4 3, 13)) × (events_of_entry (entry.Nexts 4 3) ≡ Next 4 ∷ Next 4 ∷ Next 4 ∷ [])
nexts_is = (refl, refl, refl)

-- a note of kind 9 with two bytes
abbrev note_row : List ℕ
note_row = 3 ∷ 9 ∷ 0 ∷ 0 ∷ 0 ∷ 2 ∷ 1 ∷ 2 ∷ []

abbrev note : Entry
note = entry.Note (record { kind = 9; bytes = 1 ∷ 2 ∷ [] })

pub note_is : (entry_bytes note ≡ note_row) × (decoded (note_row ++ (3 ∷ [])) ≡ Ok (note, 8))
note_is = (refl, refl)

-- ---- bytes that begin no entry

pub nothing : decoded [] ≡ Err Truncated
nothing = refl

pub another_kind : decoded (4 ∷ []) ≡ Err BadKind
another_kind = refl

-- of another format nothing else is read
pub another_format : (decoded (0 ∷ 0 ∷ 2 ∷ []) ≡ Err (OtherFormat 2)) × (decoded (0 ∷ 0 ∷ []) ≡ Err BadBody)
another_format = (refl, refl)

-- ids go up to 63
pub no_id : decoded (0 ∷ 0 ∷ 1 ∷ 0 ∷ 64 ∷ 0 ∷ 0 ∷ 3 ∷ 232 ∷ birth_row ++ mark_row ++ (0 ∷ 0 ∷ 0 ∷ 0 ∷ [])) ≡ Err BadBody
no_id = refl

-- the count of an event comes first, and then what is wrong with the event
pub half_a_count : (decoded (1 ∷ 0 ∷ 0 ∷ 7 ∷ []) ≡ Err BadBody) × (decoded (1 ∷ 0 ∷ 0 ∷ 0 ∷ 7 ∷ []) ≡ Err (BadEvent event.Truncated))
half_a_count = (refl, refl)

pub another_form : decoded (1 ∷ 0 ∷ 0 ∷ 0 ∷ 7 ∷ 0 ∷ 0 ∷ 0 ∷ 2 ∷ 2 ∷ 3 ∷ []) ≡ Err (BadEvent event.BadForm)
another_form = refl

pub half_a_run : decoded (2 ∷ 0 ∷ 0 ∷ 0 ∷ 0 ∷ 0 ∷ 0 ∷ 0 ∷ 4 ∷ 0 ∷ 0 ∷ 3 ∷ []) ≡ Err BadBody
half_a_run = refl

-- a length that the bytes don't bear out
pub short_note : decoded (3 ∷ 9 ∷ 255 ∷ 255 ∷ 255 ∷ 255 ∷ 1 ∷ 2 ∷ []) ≡ Err BadBody
short_note = refl
