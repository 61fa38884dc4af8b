-- what a function that is an event does
use Rattle.std.specs.Prelude.{◌≡◌, ℕ, ℤ, Option, Some, None, Result, Ok, Err}
use Rattle.mr_desk.specs.Device.{DeviceAnswers, DeviceMerges}
use Rattle.mr_desk.specs.Version.{numbers_of}
use Rattle.mr_desk.specs.declared.call.Call.{Call}
use Rattle.mr_desk.specs.declared.call.VersionNumbers.{VersionNumbers}
use Rattle.mr_desk.specs.declared.device.Device.{Device}
use Rattle.mr_desk.specs.declared.fault.Fault.{Fault}
use Rattle.mr_desk.specs.declared.reply.Told.{Told}
use Rattle.mr_desk.specs.declared.reply.Told.TheVariants.{Issued, Asked, Streaming, Took, Known, Finished}
use Rattle.mr_c.specs.Code.{code_of}
use Rattle.mr_c.specs.declared.failure.Failure.{Failure}
use Rattle.mr_c.specs.declared.failure.Failure.TheVariants.{Closed, Desk}

-- A closed handle answers so, and stays closed. An open one stays open, and its device answers the call.
abbrev pub Called : Option Device → Call → Result Told Failure → Option Device → Type 0
Called None call answer new = (answer ≡ Err Closed) × (new ≡ None)
Called (Some s) call (Ok told) (Some n) = DeviceAnswers s call (Ok told) n
Called (Some s) call (Err (Desk fault)) (Some n) = DeviceAnswers s call (Err fault) n
Called (Some s) call answer new = ⊥

-- The handle was called, and C sees of the answer what is said.
abbrev pub Calls : Option Device → Call → Option Device → (Result Told Failure → Type 0) → Type 0
Calls old call new IsSeen = (answer : Result Told Failure) × Called old call answer new × IsSeen answer

-- A closed handle answers so, and stays closed. The device of an open one does this.
abbrev pub Does : {X : Type 0} → (Device → Result X Fault → Device → Type 0) → Option Device → Result X Failure → Option Device → Type 0
Does Acts None answer new = (answer ≡ Err Closed) × (new ≡ None)
Does Acts (Some s) (Ok done) (Some n) = Acts s (Ok done) n
Does Acts (Some s) (Err (Desk fault)) (Some n) = Acts s (Err fault) n
Does Acts (Some s) answer new = ⊥

-- The handle was asked to do it, and C sees the number of the answer.
abbrev pub DoesAs : (Device → Result (Unit {0}) Fault → Device → Type 0) → Option Device → Option Device → ℤ → Type 0
DoesAs Acts old new code = (answer : Result (Unit {0}) Failure) × Does Acts old answer new × (code ≡ code_of answer)

-- The handle was asked to merge the heads of an item, and C sees of the answer what is said.
abbrev pub Merges : Option Device → VersionNumbers → Option Device → (Result Told Failure → Type 0) → Type 0
Merges old item new IsSeen = (answer : Result Told Failure) × Does (λ s told n. DeviceMerges s item told n) old answer new × IsSeen answer

-- what stands in the caller's variable then: what was told, and what stood there where nothing was
abbrev pub version_told : Result Told Failure → VersionNumbers → VersionNumbers
version_told (Ok (Issued version)) old = numbers_of version
version_told answer old = old

abbrev pub number_told : Result Told Failure → ℕ → ℕ
number_told (Ok (Asked session)) old = session
number_told (Ok (Streaming stream)) old = stream
number_told answer old = old

abbrev pub outcome_told : Result Told Failure → ℕ → ℕ
outcome_told (Ok Took) old = 0
outcome_told (Ok Known) old = 1
outcome_told (Ok Finished) old = 2
outcome_told answer old = old
