-- what a side asks of its host for one message
use Rattle.std.specs.Prelude.{◌≡◌, ◌⊎◌, Bool, List, [], ◌∷◌, Some, None, Result, Ok, Err, IfErr, IfOk, MatchResult, OnOk}
use Rattle.std.specs.Result.{result_unwrap_or, result_err}
use Rattle.std.specs.Option.{option_or}
use Rattle.mr_talk.specs.declared.hello.Hello.{Hello}
use Rattle.mr_talk.specs.declared.kind.Kind.{Kind}
use Rattle.mr_talk.specs.declared.kind.Kind.TheVariants as kind
use Rattle.mr_talk.specs.declared.meeting.Meeting.{Meeting}
use Rattle.mr_talk.specs.declared.meeting.Speech.{Speech}
use Rattle.mr_talk.specs.declared.meeting.Speech.TheVariants as speech
use Rattle.mr_talk.specs.declared.side.HostFault.{HostFault}
use Rattle.mr_talk.specs.declared.turn.Role.{Role}
use Rattle.mr_talk.specs.declared.turn.Turn.{Turn}
use Rattle.mr_talk.specs.declared.turn.Turn.TheVariants.{CallerGreets}
use Rattle.mr_talk.specs.declared.talk_fault.TalkFault.{TalkFault}
use Rattle.mr_talk.specs.declared.talk_fault.TalkFault.TheVariants as talk
use Rattle.mr_talk.specs.Hello.{hello_bytes}
use Rattle.mr_talk.specs.Host.{Act, Acts, HasRefused, IsHandedOver, Keeps, Known, Listens, Meets, Offers, Plays, Speaks, nobody, passes}
use Rattle.mr_talk.specs.Said.{Said}

-- what a side knows of the other
abbrev pub known_of : Meeting → Known
known_of meeting = record { theirs = meeting.theirs; is_idle = meeting.is_idle }

-- the message that says it
abbrev pub speech_message : Speech → Said
speech_message (speech.Hello hello) = record { kind = kind.Hello; bytes = hello_bytes hello }
speech_message (speech.Idle hello) = record { kind = kind.Idle; bytes = hello_bytes hello }
speech_message (speech.Ask bytes) = record { kind = kind.Ask; bytes = bytes.items }
speech_message (speech.Given m) = m
speech_message speech.Turn = passes
speech_message (speech.Done knows) = record { kind = kind.Done; bytes = knows }

-- calls of the host led to this, or one was refused with the fault
abbrev pub IsAskedFor : {S T : Type 0} → (S → Act → S → Type 0) → (T → List Act → Type 0) → (old : S) → Result T HostFault → (new : S) → Type 0
IsAskedFor steps P old result new = (acts : List Act) × Acts steps old acts new × MatchResult result (λ x. P x acts) (λ fault. HasRefused fault acts)

-- what is handed over of each kind; a hello and a fault aren't
abbrev pub Hands : Kind → Said → List Act → Type 0
Hands kind.Hello m acts = Unit {0}
Hands kind.Idle m acts = Unit {0}
Hands kind.Fault m acts = Unit {0}
Hands k m acts = IsHandedOver k m acts

-- the host gave a message that is none that hosts give
abbrev pub GaveFault : Turn → TalkFault → List Act → Type 0
GaveFault turn talk.OutOfPlace acts = (m : Said) × Offers turn m acts × (m.kind ≡ kind.Fault)
GaveFault turn fault acts = Unit {0}

-- What is said next, by what the host answers. Once that one has refused a call it is asked no more.
pub record IsVoiced {S : Type 0} (steps : S → Act → S → Type 0) (before : Meeting) (turn : Turn) (result : Result Said TalkFault) (after : Meeting) (old new : S) : Type 0 where
  pub acts : List Act
  pub leads : Acts steps old acts new
  pub known : known_of after ≡ known_of before
  pub speaks : before.broken ≡ None → after.broken ≡ None → IfOk result (λ m. Speaks (known_of before) turn m acts)
  pub breaks : before.broken ≡ None → (fault : HostFault) → after.broken ≡ Some fault → HasRefused fault acts
  pub stays : (fault : HostFault) → before.broken ≡ Some fault → after.broken ≡ Some fault
  pub tells : (fault : HostFault) → after.broken ≡ Some fault → IfOk result (λ m. m.kind ≡ kind.Fault)
  pub given : IfErr result (λ fault. GaveFault turn fault acts)

-- the host met the other side, and answered whether there is nothing to tell, or refused to
pub record IsMet {S : Type 0} (steps : S → Act → S → Type 0) (before : Meeting) (theirs : Hello) (after : Meeting) (old new : S) : Type 0 where
  pub answer : Result Bool HostFault
  pub step : steps old (Meets theirs answer) new
  pub is : after ≡ record { theirs = before.theirs; is_idle = result_unwrap_or answer before.is_idle; broken = option_or (result_err answer) before.broken }

-- a fault of the host is the one that it has
abbrev pub IsBrokenBy : Meeting → TalkFault → Type 0
IsBrokenBy meeting (talk.Host fault) = meeting.broken ≡ Some fault
IsBrokenBy meeting fault = Unit {0}

-- What came is handed to the host, unless that one has refused a call.
pub record IsTakenIn {S : Type 0} (steps : S → Act → S → Type 0) (before : Meeting) (m : Said) (result : Result (Unit {0}) TalkFault) (after : Meeting) (old new : S) : Type 0 where
  pub acts : List Act
  pub leads : Acts steps old acts new
  pub listens : OnOk result (before.broken ≡ None → after.broken ≡ None → Listens m.kind (known_of before) m acts (known_of after))
  pub breaks : OnOk result (before.broken ≡ None → (fault : HostFault) → after.broken ≡ Some fault → HasRefused fault acts)
  pub stays : OnOk result ((fault : HostFault) → before.broken ≡ Some fault → after.broken ≡ Some fault)
  pub told : IfErr result (IsBrokenBy before)

-- what the host did is kept before a message is sent, and nothing is asked for one that is out of place
abbrev pub IsKeptFor : {T : Type 0} → Result T TalkFault → List Act → Type 0
IsKeptFor (Ok next) acts = acts ≡ Keeps (Ok tt) ∷ []
IsKeptFor (Err talk.OutOfPlace) acts = acts ≡ []
IsKeptFor (Err (talk.Host fault)) acts = HasRefused fault acts
IsKeptFor (Err fault) acts = Unit {0}

abbrev pub IsSentFor : {S T : Type 0} → (S → Act → S → Type 0) → Result T TalkFault → (old new : S) → Type 0
IsSentFor steps result old new = (acts : List Act) × Acts steps old acts new × IsKeptFor result acts

-- how the talk ended: with the fault that its host has, or what that one did is kept
abbrev pub EndsWith : Meeting → {T : Type 0} → Result T TalkFault → List Act → Type 0
EndsWith meeting (Ok x) acts = acts ≡ Keeps (Ok tt) ∷ []
EndsWith meeting (Err (talk.Host fault)) acts = (meeting.broken ≡ Some fault) ⊎ HasRefused fault acts
EndsWith meeting (Err fault) acts = ⊥

abbrev pub IsEndedFor : {S T : Type 0} → (S → Act → S → Type 0) → Meeting → Result T TalkFault → (old new : S) → Type 0
IsEndedFor steps meeting result old new = (acts : List Act) × Acts steps old acts new × EndsWith meeting result acts

-- what was asked of the host for these messages, or that it has refused a call
pub record IsServed {S : Type 0} (steps : S → Act → S → Type 0) (role : Role) (messages : List Said) (meeting : Meeting) (old new : S) : Type 0 where
  pub acts : List Act
  pub leads : Acts steps old acts new
  pub plays : meeting.broken ≡ None → Plays role nobody CallerGreets messages acts (known_of meeting)
  pub breaks : (fault : HostFault) → meeting.broken ≡ Some fault → HasRefused fault acts
