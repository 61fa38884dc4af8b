-- the bytes of an event and of an entry
use Rattle.std.specs.Prelude.{◌≡◌, ◌≤◌, ◌<◌, ◌^◌, ℕ, length, Result, Ok, Err}
use Rattle.std.specs.Global.{Vec}
use Rattle.mr_wire.specs.declared.decoding.TheConstants.{MAX_REST_BYTES}
use Rattle.mr_wire.specs.declared.frame.Frame.TheVariants as frame
use Rattle.mr_wire.specs.Encoding.{HasShortFragments}
use Rattle.mr_replica.specs.declared.event.Event.{Event}
use Rattle.mr_replica.specs.declared.event.Event.TheVariants.{Create, Edit, Retire, Pull, Receive, CutIn, Answer, Next, CutOut, Vouch, Release}
use Rattle.mr_entry.specs.Grammar.{Spells}
use Rattle.mr_entry.specs.Spelling.{rest_bytes, event_bytes}
use Rattle.mr_entry.specs.declared.entry.Entry.{Entry}
use Rattle.mr_entry.specs.declared.entry.Entry.TheVariants as entry
use Rattle.mr_entry.specs.declared.event.fault.EventFault.{EventFault}
use Rattle.mr_entry.specs.declared.event.fault.EventFault.TheVariants as event_fault
use Rattle.mr_entry.specs.declared.fault.EntryFault.{EntryFault}
use Rattle.mr_entry.specs.declared.fault.EntryFault.TheVariants.{OutOfMemory, Truncated, BadKind, OtherFormat, BadBody, BadEvent, TooLong}

-- ---- events

-- an edit has at most 1,000,000 bases, and the fragments of a request take at most 8,000,000 bytes; another event has no such limit to keep
abbrev pub IsShort : Event → Type 0
IsShort (Create message) = Unit {0}
IsShort (Edit bases message) = length bases ≤ 1000000
IsShort Retire = Unit {0}
IsShort Pull = Unit {0}
IsShort (Receive f) = HasShortFragments f
IsShort (CutIn session) = Unit {0}
IsShort (Answer q) = HasShortFragments (frame.Ask q)
IsShort (Next stream) = Unit {0}
IsShort (CutOut stream) = Unit {0}
IsShort (Vouch version) = Unit {0}
IsShort (Release r) = Unit {0}

-- What is answered is the event's bytes, or that they would be too many. Memory runs out only where they aren't.
abbrev pub EncodesEvent : Event → Result (Vec ℕ) EventFault → Type 0
EncodesEvent e (Ok v) = (v.items ≡ event_bytes e) × (length (rest_bytes e) ≤ MAX_REST_BYTES)
EncodesEvent e (Err event_fault.TooLong) = MAX_REST_BYTES < length (rest_bytes e)
EncodesEvent e (Err event_fault.OutOfMemory) = length (rest_bytes e) ≤ MAX_REST_BYTES
EncodesEvent e (Err event_fault.Truncated) = ⊥
EncodesEvent e (Err event_fault.BadForm) = ⊥
EncodesEvent e (Err event_fault.BadKind) = ⊥
EncodesEvent e (Err event_fault.BadBody) = ⊥

-- ---- entries

-- it has no bytes: a text or a note is too long to have its length written, or the event is longer than one may be
abbrev pub IsLong : Entry → Type 0
IsLong (entry.Head h) = 2 ^ 32 ≤ length h.filter
IsLong (entry.Event issued e) = MAX_REST_BYTES < length (rest_bytes e)
IsLong (entry.Nexts stream count) = ⊥
IsLong (entry.Note n) = 2 ^ 32 ≤ length n.bytes

-- What is answered is the entry's bytes, or that it has none. Memory runs out only where it has.
abbrev pub Encodes : Entry → Result (Vec ℕ) EntryFault → Type 0
Encodes e (Ok v) = Spells e v.items
Encodes e (Err TooLong) = IsLong e
Encodes e (Err OutOfMemory) = IsLong e → ⊥
Encodes e (Err Truncated) = ⊥
Encodes e (Err BadKind) = ⊥
Encodes e (Err (OtherFormat _)) = ⊥
Encodes e (Err BadBody) = ⊥
Encodes e (Err (BadEvent _)) = ⊥
