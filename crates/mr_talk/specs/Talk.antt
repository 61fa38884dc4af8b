-- a talk as one side has it: the messages, which of their bytes it sent, and which it received
use Rattle.std.specs.Prelude.{◌≡◌, ◌≢◌, ◌⊎◌, ◌^◌, ◌-◌, ℕ, List, [], ◌∷◌, ◌++◌, length, map, Option, Some, None, Result, Ok, Err}
use Rattle.std.specs.Io.KnownBytes.{Appends, Consumes}
use Rattle.mr_talk.specs.declared.fault.LineFault.{LineFault}
use Rattle.mr_talk.specs.declared.fault.LineFault.TheVariants.{Message, Write}
use Rattle.mr_talk.specs.declared.fault.MessageFault.TheVariants.{OutOfMemory, TooLong}
use Rattle.mr_talk.specs.declared.hello.HelloFault.{HelloFault}
use Rattle.mr_talk.specs.declared.kind.Kind.{Kind}
use Rattle.mr_talk.specs.declared.kind.Kind.TheVariants as kind
use Rattle.mr_talk.specs.declared.turn.Role.{Role}
use Rattle.mr_talk.specs.declared.turn.Role.TheVariants.{Caller, Called}
use Rattle.mr_talk.specs.declared.turn.Turn.{Turn}
use Rattle.mr_talk.specs.declared.turn.Turn.TheVariants.{CallerGreets, CalledGreets, CalledAsks, CalledPasses, CallerAsks, Over}
use Rattle.mr_talk.specs.declared.talk_fault.TalkFault.{TalkFault}
use Rattle.mr_talk.specs.declared.talk_fault.TalkFault.TheVariants.{Line, Hello, OutOfPlace, Host, Told}
use Rattle.mr_talk.specs.Hello.{Reads}
use Rattle.mr_talk.specs.Host.{Act, Acts, HasRefused, Offers, Played}
use Rattle.mr_talk.specs.Line.{Hears, IsBegun}
use Rattle.mr_talk.specs.Said.{Said, message_bytes}
use Rattle.mr_talk.specs.Turns.{sender_of, next_of, Leads}
use Rattle.mr_talk.specs.World.{received}

abbrev pub other : Role → Role
other Caller = Called
other Called = Caller

-- the bytes, if this side is the one that may send
abbrev pub if_sender : Role → Option Role → List ℕ → List ℕ
if_sender Caller (Some Caller) bytes = bytes
if_sender Called (Some Called) bytes = bytes
if_sender Caller (Some Called) bytes = []
if_sender Called (Some Caller) bytes = []
if_sender role None bytes = []

-- the bytes of those messages that this side sends, from this state on
abbrev pub sent_by : Role → Turn → List Said → List ℕ
sent_by role t [] = []
sent_by role t (m ∷ messages) = if_sender role (sender_of t) (message_bytes m) ++ sent_by role (received (next_of t m.kind)) messages

abbrev pub kinds : List Said → List Kind
kinds messages = map (λ m. m.kind) messages

-- Messages led from the one state to the other. This side sent its own, and no other bytes; and what was ahead of it began with those of the other side.
pub record Talked (role : Role) (from to : Turn) (out_old out_new in_old in_new : Option (List ℕ)) : Type 0 where
  pub messages : List Said
  pub runs : Leads from (kinds messages) to
  pub sent : Appends out_old out_new (sent_by role from messages)
  pub came : Consumes in_old in_new (sent_by (other role) from messages)

-- A talk that broke off. Messages led from the first state to some other, and those of the other side came. What this side sent is a beginning of its own, and no other bytes.
pub record BrokeOff (role : Role) (out_old out_new in_old : Option (List ℕ)) : Type 0 where
  pub messages : List Said
  pub turn : Turn
  pub left : Option (List ℕ)
  pub runs : Leads CallerGreets (kinds messages) turn
  pub sent : IsBegun out_old out_new (sent_by role CallerGreets messages)
  pub came : Consumes in_old left (sent_by (other role) CallerGreets messages)

-- the talk came to this turn of the other side, and this is what was heard then: a message, or why there was none
pub record Heard (role : Role) (turn : Turn) (answer : Result Said LineFault) (out_old out_new in_old in_new : Option (List ℕ)) : Type 0 where
  pub between : Option (List ℕ)
  pub before : Talked role CallerGreets turn out_old out_new in_old between
  pub sender : sender_of turn ≡ Some (other role)
  pub heard : Hears between answer in_new

-- the talk came to this turn of this side, which had sent as much then
pub record MaySpeak (role : Role) (turn : Turn) (out_old out_then in_old in_new : Option (List ℕ)) : Type 0 where
  pub before : Talked role CallerGreets turn out_old out_then in_old in_new
  pub sender : sender_of turn ≡ Some role

-- in these turns the talk itself says what is sent, and a host only gives a hello or the bytes of a request
abbrev pub IsFixed : Turn → Type 0
IsFixed CallerGreets = Unit {0}
IsFixed CalledGreets = Unit {0}
IsFixed CalledAsks = Unit {0}
IsFixed CalledPasses = Unit {0}
IsFixed CallerAsks = Unit {0}
IsFixed turn = ⊥

-- what keeps this side from speaking: its stream takes no more, there is no memory, or its host gave more bytes than a message of the kind has
abbrev pub CannotSay : LineFault → Type 0
CannotSay Write = Unit {0}
CannotSay (Message OutOfMemory) = Unit {0}
CannotSay (Message TooLong) = Unit {0}
CannotSay fault = ⊥

-- a fault of the line: there was no message where one was to be heard, or one was to be said and could not be
abbrev pub IsOfLine : Role → LineFault → (out_old out_new in_old in_new : Option (List ℕ)) → Type 0
IsOfLine role fault out_old out_new in_old in_new =
    (turn : Turn) × (Heard role turn (Err fault) out_old out_new in_old in_new ⊎ ((out_then : Option (List ℕ)) × MaySpeak role turn out_old out_then in_old in_new × CannotSay fault))

-- the message that was heard was a hello in its place, of either kind, and its bytes have this fault
pub record BadHello (role : Role) (fault : HelloFault) (out_old out_new in_old in_new : Option (List ℕ)) : Type 0 where
  pub turn : Turn
  pub next : Turn
  pub m : Said
  pub heard : Heard role turn (Ok m) out_old out_new in_old in_new
  pub place : next_of turn m.kind ≡ Some next
  pub kind : (m.kind ≡ kind.Hello) ⊎ (m.kind ≡ kind.Idle)
  pub reads : Reads m.bytes (Err fault)

-- the message that was heard has no place in its turn
pub record HeardOutOfPlace (role : Role) (out_old out_new in_old in_new : Option (List ℕ)) : Type 0 where
  pub turn : Turn
  pub m : Said
  pub heard : Heard role turn (Ok m) out_old out_new in_old in_new
  pub place : next_of turn m.kind ≡ None

-- This side was to say what its host answered last. That has no place in the turn, or is a fault, and nothing of it was sent.
pub record GivenOutOfPlace (role : Role) (acts : List Act) (out_old out_new in_old in_new : Option (List ℕ)) : Type 0 where
  pub turn : Turn
  pub may : MaySpeak role turn out_old out_new in_old in_new
  pub free : IsFixed turn → ⊥
  pub m : Said
  pub before : List Act
  pub answered : List Act
  pub last : acts ≡ before ++ answered
  pub offers : Offers turn m answered
  pub place : (m.kind ≡ kind.Fault) ⊎ (next_of turn m.kind ≡ None)

-- as many messages as are counted in 64 bits were said
pub record SaidTooMany (role : Role) (out_old out_new in_old in_new : Option (List ℕ)) : Type 0 where
  pub turn : Turn
  pub talked : Talked role CallerGreets turn out_old out_new in_old in_new
  pub many : length talked.messages ≡ 2 ^ 64 - 1

-- each message was sent whole, and it is not for the other side to speak: this one may, or a fault was told, or the talk is over
pub record EndsHere (role : Role) (out_old out_new in_old in_new : Option (List ℕ)) : Type 0 where
  pub turn : Turn
  pub talked : Talked role CallerGreets turn out_old out_new in_old in_new
  pub here : sender_of turn ≢ Some (other role)

-- Why a talk ended with this fault, by what its host was asked and answered, what was sent and what came.
abbrev pub IsCause : TalkFault → Role → List Act → (out_old out_new in_old in_new : Option (List ℕ)) → Type 0
IsCause (Line fault) role acts out_old out_new in_old in_new = IsOfLine role fault out_old out_new in_old in_new
IsCause (Hello fault) role acts out_old out_new in_old in_new = BadHello role fault out_old out_new in_old in_new
IsCause OutOfPlace role acts out_old out_new in_old in_new = HeardOutOfPlace role out_old out_new in_old in_new ⊎ (GivenOutOfPlace role acts out_old out_new in_old in_new ⊎ SaidTooMany role out_old out_new in_old in_new)
IsCause (Host fault) role acts out_old out_new in_old in_new = EndsHere role out_old out_new in_old in_new × HasRefused fault acts
IsCause (Told told) role acts out_old out_new in_old in_new = (turn : Turn) × Heard role turn (Ok (record { kind = kind.Fault; bytes = told })) out_old out_new in_old in_new

-- it ended so behind calls of the host that led from the one state to the other
abbrev pub Ended : {S : Type 0} → (S → Act → S → Type 0) → TalkFault → Role → (old new : S) → (out_old out_new in_old in_new : Option (List ℕ)) → Type 0
Ended steps fault role old new out_old out_new in_old in_new = (acts : List Act) × Acts steps old acts new × IsCause fault role acts out_old out_new in_old in_new

-- a whole talk, which was played with the host
abbrev pub TalkedFor : {S : Type 0} → (S → Act → S → Type 0) → Role → (old new : S) → (out_old out_new in_old in_new : Option (List ℕ)) → Type 0
TalkedFor steps role old new out_old out_new in_old in_new = (talk : Talked role CallerGreets Over out_old out_new in_old in_new) × Played steps role talk.messages old new
