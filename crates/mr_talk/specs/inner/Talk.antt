-- one message of a talk, and why it isn't said, heard or taken
use Rattle.std.specs.Prelude.{◌≡◌, ◌≢◌, ◌⊎◌, ℕ, List, Option, Some, None, Ok, Err}
use Rattle.std.specs.Io.KnownBytes.{Keeps}
use Rattle.mr_talk.specs.declared.kind.Kind.{Kind}
use Rattle.mr_talk.specs.declared.kind.Kind.TheVariants as kind
use Rattle.mr_talk.specs.declared.meeting.Meeting.{Meeting}
use Rattle.mr_talk.specs.declared.meeting.Speech.{Speech}
use Rattle.mr_talk.specs.declared.meeting.Speech.TheVariants as speech
use Rattle.mr_talk.specs.declared.turn.Turn.{Turn}
use Rattle.mr_talk.specs.declared.talk_fault.TalkFault.{TalkFault}
use Rattle.mr_talk.specs.declared.talk_fault.TalkFault.TheVariants.{Line, Hello, OutOfPlace, Host, Told}
use Rattle.mr_talk.specs.Hello.{Reads}
use Rattle.mr_talk.specs.Line.{Hears, IsBegun}
use Rattle.mr_talk.specs.Said.{Said, message_bytes}
use Rattle.mr_talk.specs.Turns.{next_of}
use Rattle.mr_talk.specs.Talk.{CannotSay, IsFixed}

-- nothing of the message was sent; or it is in its place, and a beginning of it was sent
abbrev pub IsPartly : Turn → Said → Option (List ℕ) → Option (List ℕ) → Type 0
IsPartly t m old new = Keeps old new ⊎ ((next : Turn) × (next_of t m.kind ≡ Some next) × IsBegun old new (message_bytes m))

-- why a message isn't sent: it is out of place, or its host can't keep what it did, and then nothing was sent; or the line takes none
abbrev pub IsUnsaid : Turn → Kind → TalkFault → (old new : Option (List ℕ)) → Type 0
IsUnsaid t k (Line fault) old new = CannotSay fault
IsUnsaid t k OutOfPlace old new = (next_of t k ≡ None) × Keeps old new
IsUnsaid t k (Host fault) old new = Keeps old new
IsUnsaid t k (Hello fault) old new = ⊥
IsUnsaid t k (Told bytes) old new = ⊥

-- why no message is heard: none came, or one that is out of place
abbrev pub IsUnheard : Turn → TalkFault → (old new : Option (List ℕ)) → Type 0
IsUnheard t (Line fault) old new = Hears old (Err fault) new
IsUnheard t OutOfPlace old new = (m : Said) × Hears old (Ok m) new × (next_of t m.kind ≡ None)
IsUnheard t (Hello fault) old new = ⊥
IsUnheard t (Host fault) old new = ⊥
IsUnheard t (Told bytes) old new = ⊥

-- why a message isn't taken: it is a hello with this fault, or it tells one
abbrev pub IsUntaken : Said → TalkFault → Type 0
IsUntaken m (Hello fault) = ((m.kind ≡ kind.Hello) ⊎ (m.kind ≡ kind.Idle)) × Reads m.bytes (Err fault)
IsUntaken m (Host fault) = m.kind ≡ kind.Fault
IsUntaken m (Told bytes) = m ≡ record { kind = kind.Fault; bytes = bytes }
IsUntaken m (Line fault) = ⊥
IsUntaken m OutOfPlace = ⊥

-- why there is no message to be said: there is no memory, or the host gave too many bytes; or it gave a fault as a message
abbrev pub IsUngiven : Turn → TalkFault → Type 0
IsUngiven t (Line fault) = CannotSay fault
IsUngiven t OutOfPlace = IsFixed t → ⊥
IsUngiven t (Hello fault) = ⊥
IsUngiven t (Host fault) = ⊥
IsUngiven t (Told bytes) = ⊥

-- the kind of the message that says it
abbrev pub speech_kind : Speech → Kind
speech_kind (speech.Hello hello) = kind.Hello
speech_kind (speech.Idle hello) = kind.Idle
speech_kind (speech.Ask bytes) = kind.Ask
speech_kind (speech.Given m) = m.kind
speech_kind speech.Turn = kind.Turn
speech_kind (speech.Done knows) = kind.Done

-- what a host gives is said in no fixed turn, and there all else has its place
abbrev pub Suits : Turn → Speech → Type 0
Suits t (speech.Given m) = IsFixed t → ⊥
Suits t s = IsFixed t → next_of t (speech_kind s) ≢ None

-- the end of a turn
abbrev pub IsLast : Speech → Type 0
IsLast speech.Turn = Unit {0}
IsLast (speech.Done knows) = Unit {0}
IsLast s = ⊥

-- why a speech gives no message: what the host gave is a fault; or there is no memory, or too many bytes
abbrev pub IsUnmade : Speech → TalkFault → Type 0
IsUnmade (speech.Given m) fault = (fault ≡ OutOfPlace) × (m.kind ≡ kind.Fault)
IsUnmade s (Line fault) = CannotSay fault
IsUnmade s fault = ⊥

-- a fault of the host
abbrev pub IsOfHost : TalkFault → Type 0
IsOfHost (Host fault) = Unit {0}
IsOfHost (Line fault) = ⊥
IsOfHost (Hello fault) = ⊥
IsOfHost OutOfPlace = ⊥
IsOfHost (Told bytes) = ⊥

-- the fault that the host has, or one that was told in these bytes
abbrev pub IsTelling : Meeting → List ℕ → TalkFault → Type 0
IsTelling meeting bytes (Host fault) = meeting.broken ≡ Some fault
IsTelling meeting bytes (Told told) = told ≡ bytes
IsTelling meeting bytes (Line fault) = ⊥
IsTelling meeting bytes (Hello fault) = ⊥
IsTelling meeting bytes OutOfPlace = ⊥
