-- what a talk asks of its host, message by message
use Rattle.std.specs.Prelude.{◌≡◌, ◌≢◌, ◌⊎◌, ℕ, Bool, false, if◌then◌else◌, List, [], ◌∷◌, ◌++◌, Option, Some, None, Result, Ok, Err}
use Rattle.std.specs.Global.{Vec}
use Rattle.mr_talk.specs.declared.hello.Hello.{Hello}
use Rattle.mr_talk.specs.declared.kind.Kind.{Kind}
use Rattle.mr_talk.specs.declared.kind.Kind.TheVariants as kind
use Rattle.mr_talk.specs.declared.side.HostFault.{HostFault}
use Rattle.mr_talk.specs.declared.turn.Role.{Role}
use Rattle.mr_talk.specs.declared.turn.Role.TheVariants.{Caller, Called}
use Rattle.mr_talk.specs.declared.turn.Turn.{Turn}
use Rattle.mr_talk.specs.declared.turn.Turn.TheVariants.{CallerGreets, CalledGreets, CalledAsks, CalledPasses, CallerAsks, CallerTells}
use Rattle.mr_talk.specs.Hello.{Reads, hello_bytes}
use Rattle.mr_talk.specs.Said.{Said}
use Rattle.mr_talk.specs.Turns.{next_of, sender_of}
use Rattle.mr_talk.specs.World.{received}

-- a call of a host, with its answer
pub data Act : Type 0 where
  Keeps : Result (Unit {0}) HostFault → Act
  KeepsFiles : Result (Unit {0}) HostFault → Act
  Greets : Option Hello → Result Hello HostFault → Act
  Meets : Hello → Result Bool HostFault → Act
  Asks : Result (Vec ℕ) HostFault → Act
  Gives : Turn → Result (Option Said) HostFault → Act
  Closes : Turn → Result (Option (List ℕ)) HostFault → Act
  Takes : Said → Result (Unit {0}) HostFault → Act

-- these calls, one behind the other, lead from the one state to the other
abbrev pub Acts : {S : Type 0} → (S → Act → S → Type 0) → S → List Act → S → Type 0
Acts steps old [] new = old ≡ new
Acts {S} steps old (act ∷ acts) new = (between : S) × steps old act between × Acts steps between acts new

-- the fault with which a call was refused
abbrev pub refusal_of : Act → Option HostFault
refusal_of (Keeps (Err fault)) = Some fault
refusal_of (KeepsFiles (Err fault)) = Some fault
refusal_of (Greets theirs (Err fault)) = Some fault
refusal_of (Meets theirs (Err fault)) = Some fault
refusal_of (Asks (Err fault)) = Some fault
refusal_of (Gives turn (Err fault)) = Some fault
refusal_of (Closes turn (Err fault)) = Some fault
refusal_of (Takes m (Err fault)) = Some fault
refusal_of act = None

-- one of the calls was refused with this fault
abbrev pub HasRefused : HostFault → List Act → Type 0
HasRefused fault [] = ⊥
HasRefused fault (act ∷ acts) = (refusal_of act ≡ Some fault) ⊎ HasRefused fault acts

-- what a side knows of the other: its hello, and whether there is nothing to tell
pub record Known : Type 0 where
  pub theirs : Option Hello
  pub is_idle : Bool

abbrev pub nobody : Known
nobody = record { theirs = None; is_idle = false }

abbrev pub passes : Said
passes = record { kind = kind.Turn; bytes = [] }

-- the end of a turn: that this side has nothing open, or not
abbrev pub closing : Option (List ℕ) → Said
closing None = passes
closing (Some knows) = record { kind = kind.Done; bytes = knows }

-- how a turn ends: in the third nobody knows yet whether something is open
abbrev pub EndsTurn : Turn → Said → List Act → Type 0
EndsTurn turn m acts = ((turn ≡ CallerTells) × (acts ≡ []) × (m ≡ passes))
    ⊎ ((turn ≢ CallerTells) × ((found : Option (List ℕ)) × (acts ≡ Closes turn (Ok found) ∷ []) × (m ≡ closing found)))

-- the next message that a host gives, or else the end of the turn
abbrev pub Offers : Turn → Said → List Act → Type 0
Offers turn m acts = (acts ≡ Gives turn (Ok (Some m)) ∷ [])
    ⊎ ((rest : List Act) × (acts ≡ Gives turn (Ok None) ∷ rest) × EndsTurn turn m rest)

-- the hello that a host gives, as a message of this kind
abbrev pub SaysHello : Option Hello → Kind → Said → List Act → Type 0
SaysHello theirs k m acts = (h : Hello) × (acts ≡ Greets theirs (Ok h) ∷ []) × (m ≡ record { kind = k; bytes = hello_bytes h })

abbrev pub SaysAsk : Said → List Act → Type 0
SaysAsk m acts = (bytes : Vec ℕ) × (acts ≡ Asks (Ok bytes) ∷ []) × (m ≡ record { kind = kind.Ask; bytes = bytes.items })

-- the message that this side has to say in this turn is what its host answered
abbrev pub Speaks : Known → Turn → Said → List Act → Type 0
Speaks known CallerGreets m acts = SaysHello known.theirs kind.Hello m acts
Speaks known CalledGreets m acts = SaysHello known.theirs (if known.is_idle then kind.Idle else kind.Hello) m acts
Speaks known CalledAsks m acts = SaysAsk m acts
Speaks known CallerAsks m acts = SaysAsk m acts
Speaks known CalledPasses m acts = (acts ≡ []) × (m ≡ passes)
Speaks known turn m acts = Offers turn m acts

-- the host met the other side, which said this hello
abbrev pub MeetsIt : Said → List Act → Known → Type 0
MeetsIt m acts known = (h : Hello) × (idle : Bool) × Reads m.bytes (Ok h) × (acts ≡ Meets h (Ok idle) ∷ []) × (known ≡ record { theirs = Some h; is_idle = idle })

-- A message of this kind was handed to the host as it came, and a record once each file is on the disk. The end of a turn asks for nothing.
abbrev pub IsHandedOver : Kind → Said → List Act → Type 0
IsHandedOver kind.Turn m acts = acts ≡ []
IsHandedOver kind.Records m acts = acts ≡ KeepsFiles (Ok tt) ∷ Takes m (Ok tt) ∷ []
IsHandedOver k m acts = acts ≡ Takes m (Ok tt) ∷ []

-- what the host is asked where a message of this kind came
abbrev pub Listens : Kind → Known → Said → List Act → Known → Type 0
Listens kind.Hello from m acts to = MeetsIt m acts to
Listens kind.Idle from m acts to = MeetsIt m acts to
Listens kind.Fault from m acts to = ⊥
Listens k from m acts to = IsHandedOver k m acts × (to ≡ from)

-- a message of this side is what its host answered; what that one did is kept before it is sent
pub record Tells (from : Known) (turn : Turn) (m : Said) (acts : List Act) (to : Known) : Type 0 where
  pub answered : List Act
  pub speaks : Speaks from turn m answered
  pub kept : acts ≡ answered ++ Keeps (Ok tt) ∷ []
  pub same : to ≡ from

-- what a side asks of its host for a message, by who may send it
abbrev pub Serves : Role → Option Role → Known → Turn → Said → List Act → Known → Type 0
Serves Caller (Some Caller) from turn m acts to = Tells from turn m acts to
Serves Called (Some Called) from turn m acts to = Tells from turn m acts to
Serves Caller (Some Called) from turn m acts to = Listens m.kind from m acts to
Serves Called (Some Caller) from turn m acts to = Listens m.kind from m acts to
Serves role None from turn m acts to = ⊥

-- what it asks for these messages, one behind the other
abbrev pub Plays : Role → Known → Turn → List Said → List Act → Known → Type 0
Plays role from turn [] acts to = (acts ≡ []) × (from ≡ to)
Plays role from turn (m ∷ messages) acts to = (first : List Act) × (rest : List Act) × (between : Known) × (acts ≡ first ++ rest)
    × Serves role (sender_of turn) from turn m first between × Plays role between (received (next_of turn m.kind)) messages rest to

-- A side's host had all its messages from it, and all of the other side's handed over, each in its turn; and at the end what it did is kept.
pub record Played {S : Type 0} (steps : S → Act → S → Type 0) (role : Role) (messages : List Said) (old new : S) : Type 0 where
  pub acts : List Act
  pub known : Known
  pub plays : Plays role nobody CallerGreets messages acts known
  pub leads : Acts steps old (acts ++ Keeps (Ok tt) ∷ []) new
