-- what stands at the front of some bytes, or the first thing that is wrong with them
use Rattle.std.specs.Prelude.{◌≡◌, ◌+◌, ◌<◌, ℕ, nat_lt, if◌then◌else◌, List, [], ◌∷◌, length, take, drop, Option, Some, None, Result, Ok, Err, IsOk}
use Rattle.std.specs.Int.{w32, from_be_bytes}
use Rattle.mr_talk.specs.declared.kind.Kind.{Kind}
use Rattle.mr_talk.specs.declared.fault.MessageFault.{MessageFault}
use Rattle.mr_talk.specs.declared.fault.MessageFault.TheVariants.{OutOfMemory, Truncated, BadKind, TooLong, Failed}
use Rattle.mr_talk.specs.Kinds.{kind_of_byte, limit_of}
use Rattle.std.specs.Global.{Vec}
use Rattle.mr_talk.specs.Said.{Said, IsMessage, message_bytes}

-- the length behind a kind, unless it is not all there or is too long for the kind
abbrev pub length_read : Kind → List ℕ → Result (Kind × ℕ) MessageFault
length_read kind bytes =
    if nat_lt (length bytes) 4 then Err Truncated
    else (if nat_lt (limit_of kind) (from_be_bytes w32 (take 4 bytes)) then Err TooLong else Ok (kind, from_be_bytes w32 (take 4 bytes)))

abbrev pub kind_read : Option Kind → List ℕ → Result (Kind × ℕ) MessageFault
kind_read None bytes = Err BadKind
kind_read (Some kind) bytes = length_read kind bytes

-- the kind and the length of the first message
abbrev pub head_read : List ℕ → Result (Kind × ℕ) MessageFault
head_read [] = Err Truncated
head_read (byte ∷ bytes) = kind_read (kind_of_byte byte) bytes

-- so many bytes behind the head
abbrev pub body_read : List ℕ → Result (Kind × ℕ) MessageFault → Result (Said × ℕ) MessageFault
body_read bytes (Err fault) = Err fault
body_read bytes (Ok head) = if nat_lt (length bytes) (5 + head.1) then Err Truncated else Ok (record { kind = head.0; bytes = take head.1 (drop 5 bytes) }, 5 + head.1)

-- the first message, and how many bytes it takes
abbrev pub decoded : List ℕ → Result (Said × ℕ) MessageFault
decoded bytes = body_read bytes (head_read bytes)

-- What is answered is what was decoded. Memory is wanting only where there is a message.
abbrev pub Answers : {X : Type 0} → Result X MessageFault → Result X MessageFault → Type 0
Answers read (Ok x) = read ≡ Ok x
Answers read (Err OutOfMemory) = IsOk read
Answers read (Err Truncated) = read ≡ Err Truncated
Answers read (Err BadKind) = read ≡ Err BadKind
Answers read (Err TooLong) = read ≡ Err TooLong
Answers read (Err Failed) = ⊥

-- What is answered is the message's bytes, or that they would be too many. Memory runs out only where they aren't.
abbrev pub Encodes : Said → Result (Vec ℕ) MessageFault → Type 0
Encodes m (Ok v) = IsMessage m × (v.items ≡ message_bytes m)
Encodes m (Err OutOfMemory) = IsMessage m
Encodes m (Err Truncated) = ⊥
Encodes m (Err BadKind) = ⊥
Encodes m (Err TooLong) = limit_of m.kind < length m.bytes
Encodes m (Err Failed) = ⊥
