-- what a function that reads gives
use Rattle.std.specs.Prelude.{◌≡◌, ◌<◌, ◌≤◌, ◌++◌, ℕ, ℤ, pos, List, length, drop, Option, Some, None, Result, Ok, Err}
use Rattle.std.specs.Global.{Vec}
use Rattle.std.specs.List.{slice_get}
use Rattle.mr_itemset.specs.Normal.{Normal}
use Rattle.mr_replica.specs.State.{State}
use Rattle.mr_desk.specs.Device.{shown}
use Rattle.mr_desk.specs.declared.device.Device.{Device}
use Rattle.mr_desk.specs.declared.fault.Fault.{Fault}
use Rattle.mr_desk.specs.declared.fault.Fault.TheVariants.{Wire}
use Rattle.mr_wire.specs.declared.fault.WireFault.{WireFault}
use Rattle.mr_c.specs.Code.{failure_number}
use Rattle.mr_c.specs.declared.failure.Failure.{Failure}
use Rattle.mr_c.specs.declared.failure.Failure.TheVariants.{Closed, TooSmall, NotThere, Desk}

-- what is at a place
abbrev pub at_place : {X Y : Type 0} → (X → Y) → List X → ℕ → Result Y Failure
at_place shown xs place = elim (slice_get xs place) [
  | Some x ↦ Ok (shown x)
  | None ↦ Err NotThere
]

-- The caller's variable has what was found then, and where nothing was it is as before.
abbrev pub IsGiven : {X : Type 0} → Result X Failure → (old new : X) → ℤ → Type 0
IsGiven (Ok found) old new code = (new ≡ found) × (code ≡ pos 0)
IsGiven (Err failure) old new code = (new ≡ old) × (code ≡ pos (failure_number failure))

-- The buffer has the items at its front. Where it has no room for all of them it is as before, and the answer says so.
pub record IsPut {X : Type 0} (items old new : List X) (code : ℤ) : Type 0 where
  pub fits : length items ≤ length old → (new ≡ items ++ drop (length items) old) × (code ≡ pos 0)
  pub too_many : length old < length items → (new ≡ old) × (code ≡ pos (failure_number TooSmall))

-- What was found is put into the buffer, and the word has its length, whether it fits or not. Where nothing was both are as before.
abbrev pub IsFilled : {X : Type 0} → Result (List X) Failure → (old new : List X) → (old_len new_len : ℕ) → ℤ → Type 0
IsFilled (Ok found) old new old_len new_len code = (new_len ≡ length found) × IsPut found old new code
IsFilled (Err failure) old new old_len new_len code = (new ≡ old) × (new_len ≡ old_len) × (code ≡ pos (failure_number failure))

-- what is found in memory that was wanted for it
abbrev pub built : {X : Type 0} → Result (Vec X) Failure → Result (List X) Failure
built (Ok found) = Ok found.items
built (Err failure) = Err failure

-- a fault of the desk's, of a frame's bytes, and of a version's numbers, as C's
abbrev pub by_desk : {X : Type 0} → Result X Fault → Result X Failure
by_desk (Ok found) = Ok found
by_desk (Err fault) = Err (Desk fault)

abbrev pub by_wire : {X : Type 0} → Result X WireFault → Result X Failure
by_wire (Ok found) = Ok found
by_wire (Err fault) = Err (Desk (Wire fault))

-- what is read of what was found
abbrev pub read_of : {X Y : Type 0} → (X → Result Y Failure) → Result X Failure → Result Y Failure
read_of read (Ok found) = read found
read_of read (Err failure) = Err failure

-- what is read of the replica of a device, where it is shown
abbrev pub read_in : {X : Type 0} → (State Normal → Result X Failure) → Device → Result X Failure
read_in read device = read_of read (by_desk (shown device))

-- what is read of a device, and of its replica, where the handle is open
abbrev pub read_open : {X : Type 0} → (Device → Result X Failure) → Option Device → Result X Failure
read_open read None = Err Closed
read_open read (Some device) = read device

abbrev pub read_by : {X : Type 0} → (State Normal → Result X Failure) → Option Device → Result X Failure
read_by read device = read_open (read_in read) device
