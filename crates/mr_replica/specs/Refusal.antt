-- refusals: their numbers, their names, which of them a form's fault is, and the first of several
use Rattle.std.specs.Prelude.{ℕ, Bool, if◌then◌else◌, Option, Some, None, List, codes}
use Rattle.mr_forms.specs.declared.fault.FormFault.{FormFault}
use Rattle.mr_forms.specs.declared.fault.FormFault.TheVariants as fault
use Rattle.mr_session.specs.declared.fault.SessionFault.{SessionFault}
use Rattle.mr_session.specs.declared.fault.SessionFault.TheVariants as faults
use Rattle.mr_replica.specs.declared.refusal.Refusal.{Refusal}
use Rattle.mr_replica.specs.declared.refusal.Refusal.TheVariants.{OutOfMemory, Retired, NoBase, NotHeld, MixedItems, OwnHeadLeft, TooManyHoles, TooManyItems, LogFull, TooManySessions, TooManyStreams, NotForMe, NoSession, NotStart, OtherStream, Repeated, Gap, NotARecord, NoStream, OwnAsk, NotPushedOut, PushOutsLeft, Forged}

-- the number by which a host knows the refusal
abbrev pub refusal_number : Refusal → ℕ
refusal_number OutOfMemory = 0
refusal_number Retired = 1
refusal_number NoBase = 2
refusal_number (NotHeld version) = 3
refusal_number MixedItems = 4
refusal_number (OwnHeadLeft version) = 5
refusal_number TooManyHoles = 6
refusal_number TooManyItems = 7
refusal_number LogFull = 8
refusal_number TooManySessions = 9
refusal_number TooManyStreams = 10
refusal_number NotForMe = 11
refusal_number NoSession = 12
refusal_number NotStart = 13
refusal_number OtherStream = 14
refusal_number Repeated = 15
refusal_number Gap = 16
refusal_number NotARecord = 17
refusal_number NoStream = 18
refusal_number OwnAsk = 19
refusal_number NotPushedOut = 20
refusal_number PushOutsLeft = 21
refusal_number Forged = 22

-- the name under which it is printed
abbrev pub refusal_name : Refusal → List ℕ
refusal_name OutOfMemory = codes "OutOfMemory"
refusal_name Retired = codes "Retired"
refusal_name NoBase = codes "NoBase"
refusal_name (NotHeld version) = codes "NotHeld"
refusal_name MixedItems = codes "MixedItems"
refusal_name (OwnHeadLeft version) = codes "OwnHeadLeft"
refusal_name TooManyHoles = codes "TooManyHoles"
refusal_name TooManyItems = codes "TooManyItems"
refusal_name LogFull = codes "LogFull"
refusal_name TooManySessions = codes "TooManySessions"
refusal_name TooManyStreams = codes "TooManyStreams"
refusal_name NotForMe = codes "NotForMe"
refusal_name NoSession = codes "NoSession"
refusal_name NotStart = codes "NotStart"
refusal_name OtherStream = codes "OtherStream"
refusal_name Repeated = codes "Repeated"
refusal_name Gap = codes "Gap"
refusal_name NotARecord = codes "NotARecord"
refusal_name NoStream = codes "NoStream"
refusal_name OwnAsk = codes "OwnAsk"
refusal_name NotPushedOut = codes "NotPushedOut"
refusal_name PushOutsLeft = codes "PushOutsLeft"
refusal_name Forged = codes "Forged"

-- which refusal a form's fault is
abbrev pub refusal_of : FormFault → Refusal
refusal_of fault.OutOfMemory = OutOfMemory
refusal_of fault.TooManyHoles = TooManyHoles
refusal_of fault.TooManyItems = TooManyItems

-- which refusal a session's fault is
abbrev pub refusal_of_session : SessionFault → Refusal
refusal_of_session faults.NotStart = NotStart
refusal_of_session faults.OtherStream = OtherStream
refusal_of_session faults.Repeated = Repeated
refusal_of_session faults.Gap = Gap

-- the first of two answers that there is
infixr 20 ◌orelse◌
abbrev pub ◌orelse◌ : {A : Type 0} → Option A → Option A → Option A
None orelse b = b
(Some a) orelse b = Some a

-- the refusal, if its case holds
abbrev pub refused_if : Bool → Refusal → Option Refusal
refused_if b e = if b then Some e else None
