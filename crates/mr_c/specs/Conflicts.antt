-- items of which several heads are held
use Rattle.std.specs.Prelude.{◌≡◌, ℕ, ℤ, List, map, Option, Result, Ok, Err}
use Rattle.std.specs.Global.{Vec}
use Rattle.mr_version.specs.Name.{Name}
use Rattle.mr_itemset.specs.Normal.{Normal}
use Rattle.mr_replica.specs.State.{State}
use Rattle.mr_store.specs.Revisions.{AreConflicts, versions_of}
use Rattle.mr_desk.specs.Version.{named_by, numbers_of}
use Rattle.mr_desk.specs.declared.call.VersionNumbers.{VersionNumbers}
use Rattle.mr_desk.specs.declared.device.Device.{Device}
use Rattle.mr_desk.specs.declared.fault.Fault.TheVariants.{OutOfMemory}
use Rattle.mr_c.specs.Given.{built, read_by, IsFilled}
use Rattle.mr_c.specs.Shown.{of_version}
use Rattle.mr_c.specs.declared.failure.Failure.{Failure}
use Rattle.mr_c.specs.declared.failure.Failure.TheVariants.{Desk}

-- the replica of an open handle's device, where it is shown
abbrev pub replica_in : Option Device → Result (State Normal) Failure
replica_in device = read_by (λ s. Ok s) device

-- What is found are the numbers of all items with two or more heads, in rising order; or memory was wanting.
abbrev pub FindsConflicts : Result (State Normal) Failure → Result (List VersionNumbers) Failure → Type 0
FindsConflicts (Ok s) (Ok found) = (items : List Name) × AreConflicts s.heads items × (found ≡ map numbers_of items)
FindsConflicts (Ok s) (Err failure) = failure ≡ Desk OutOfMemory
FindsConflicts (Err failure) found = found ≡ Err failure

-- They are put into the buffer, or the answer says why there are none.
abbrev pub GivesConflicts : Result (State Normal) Failure → (old new : List VersionNumbers) → (old_len new_len : ℕ) → ℤ → Type 0
GivesConflicts replica old new old_len new_len code = (found : Result (Vec VersionNumbers) Failure) × FindsConflicts replica (built found) × IsFilled (built found) old new old_len new_len code

-- the numbers of an item's heads, in version order
abbrev pub heads_in : State Normal → VersionNumbers → Result (List VersionNumbers) Failure
heads_in s item = of_version item (Ok (map numbers_of (versions_of (named_by item) s.heads)))

abbrev pub heads_of : Option Device → VersionNumbers → Result (List VersionNumbers) Failure
heads_of device item = read_by (λ s. heads_in s item) device
