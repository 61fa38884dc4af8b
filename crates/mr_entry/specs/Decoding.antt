-- what stands at the front of some bytes, or the first thing that is wrong with them
use Rattle.std.specs.Prelude.{◌≡◌, ◌+◌, ◌-◌, ℕ, ◌==◌, nat_le, if◌then◌else◌, List, [], ◌∷◌, length, drop, Option, Some, Result, Ok, Err, IsOk}
use Rattle.std.specs.Int.{w8, w16, w32}
use Rattle.mr_wire.specs.Reading.{◌>>=◌, number_at, as_at}
use Rattle.mr_wire.specs.Prefixed.{RestFaults, or_fault, and_then, rest_of, whole_at}
use Rattle.mr_replica.specs.declared.event.Event.{Event}
use Rattle.mr_entry.specs.Fault.{fault_of_event}
use Rattle.mr_entry.specs.Parts.{event_at, head_at, nexts_at, note_at}
use Rattle.mr_entry.specs.declared.entry.Entry.{Entry}
use Rattle.mr_entry.specs.declared.entry.Entry.TheVariants as entry
use Rattle.mr_entry.specs.declared.event.fault.EventFault.{EventFault}
use Rattle.mr_entry.specs.declared.event.fault.EventFault.TheVariants as event_fault
use Rattle.mr_entry.specs.declared.fault.EntryFault.{EntryFault}
use Rattle.mr_entry.specs.declared.fault.EntryFault.TheVariants.{OutOfMemory, Truncated, BadKind, OtherFormat, BadBody, BadEvent, TooLong}

-- ---- events

-- the faults of what stands behind the length
abbrev pub rest_faults : RestFaults EventFault
rest_faults = record { truncated = event_fault.Truncated; too_long = event_fault.TooLong; bad_body = event_fault.BadBody }

-- the kind, and what stands behind it
abbrev pub kind_and_parts : List ℕ → Result (ℕ × List ℕ) EventFault
kind_and_parts [] = Err event_fault.BadBody
kind_and_parts (form ∷ []) = Err event_fault.BadBody
kind_and_parts (form ∷ kind ∷ parts) = if form == 1 then (if nat_le kind 10 then Ok (kind, parts) else Err event_fault.BadKind) else Err event_fault.BadForm

-- the event of this kind that the bytes are, all of them
abbrev pub whole_event : ℕ → List ℕ → Option Event
whole_event kind parts = whole_at (event_at kind) parts

-- the first event, and how many bytes it takes
abbrev pub event_decoded : List ℕ → Result (Event × ℕ) EventFault
event_decoded bytes =
    and_then (rest_of rest_faults bytes) (λ rest. and_then (kind_and_parts rest) (λ head. or_fault event_fault.BadBody (whole_event head.0 head.1 >>= λ e. Some (e, length rest + 4))))

-- What is answered is what was decoded. Memory is wanting only where there is an event.
abbrev pub AnswersEvent : {X : Type 0} → Result X EventFault → Result X EventFault → Type 0
AnswersEvent read (Ok x) = read ≡ Ok x
AnswersEvent read (Err event_fault.OutOfMemory) = IsOk read
AnswersEvent read (Err event_fault.Truncated) = read ≡ Err event_fault.Truncated
AnswersEvent read (Err event_fault.TooLong) = read ≡ Err event_fault.TooLong
AnswersEvent read (Err event_fault.BadForm) = read ≡ Err event_fault.BadForm
AnswersEvent read (Err event_fault.BadKind) = read ≡ Err event_fault.BadKind
AnswersEvent read (Err event_fault.BadBody) = read ≡ Err event_fault.BadBody

-- ---- entries

-- the head behind the number of its format
abbrev pub head_read : List ℕ → Result (Entry × List ℕ) EntryFault
head_read bytes = and_then (or_fault BadBody (number_at w16 bytes)) (λ format. if format.0 == 1 then or_fault BadBody (as_at entry.Head head_at format.1) else Err (OtherFormat format.0))

-- the event behind a count of versions
abbrev pub counted_event : ℕ → List ℕ → Result (Event × ℕ) EventFault → Result (Entry × List ℕ) EntryFault
counted_event issued bytes (Ok e) = Ok (entry.Event issued e.0, drop e.1 bytes)
counted_event issued bytes (Err fault) = Err (fault_of_event fault)

abbrev pub event_read : List ℕ → Result (Entry × List ℕ) EntryFault
event_read bytes = and_then (or_fault BadBody (number_at w32 bytes)) (λ issued. counted_event issued.0 issued.1 (event_decoded issued.1))

abbrev pub nexts_read : List ℕ → Result (Entry × List ℕ) EntryFault
nexts_read bytes = or_fault BadBody (as_at (λ n. entry.Nexts n.0 n.1) nexts_at bytes)

abbrev pub note_read : List ℕ → Result (Entry × List ℕ) EntryFault
note_read bytes = or_fault BadBody (as_at entry.Note note_at bytes)

-- the entry of this kind byte, and what it leaves
abbrev pub parts_read : ℕ → List ℕ → Result (Entry × List ℕ) EntryFault
parts_read kind bytes =
    if kind == 0 then head_read bytes
    else (if kind == 1 then event_read bytes
    else (if kind == 2 then nexts_read bytes
    else (if kind == 3 then note_read bytes
    else Err BadKind)))

abbrev pub entry_read : List ℕ → Result (Entry × List ℕ) EntryFault
entry_read bytes = and_then (or_fault Truncated (number_at w8 bytes)) (λ kind. parts_read kind.0 kind.1)

-- the first entry, and how many bytes it takes
abbrev pub decoded : List ℕ → Result (Entry × ℕ) EntryFault
decoded bytes = and_then (entry_read bytes) (λ e. Ok (e.0, length bytes - length e.1))

-- What is answered is what was decoded. Memory is wanting only where there is an entry.
abbrev pub Answers : {X : Type 0} → Result X EntryFault → Result X EntryFault → Type 0
Answers read (Ok found) = read ≡ Ok found
Answers read (Err OutOfMemory) = IsOk read
Answers read (Err Truncated) = read ≡ Err Truncated
Answers read (Err BadKind) = read ≡ Err BadKind
Answers read (Err (OtherFormat format)) = read ≡ Err (OtherFormat format)
Answers read (Err BadBody) = read ≡ Err BadBody
Answers read (Err (BadEvent fault)) = read ≡ Err (BadEvent fault)
Answers read (Err TooLong) = read ≡ Err TooLong
