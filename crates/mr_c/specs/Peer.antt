-- what devices tell each other before they sync
use Rattle.std.specs.Prelude.{◌≡◌, ℕ, ℤ, List, Option, Some, None, Result, Ok, Err}
use Rattle.mr_itemset.specs.Normal.{Normal}
use Rattle.mr_replica.specs.State.{State}
use Rattle.mr_desk.specs.Peer.{ChecksPeer, FindsHighest, birth_of}
use Rattle.mr_desk.specs.declared.call.VersionNumbers.{VersionNumbers}
use Rattle.mr_desk.specs.declared.device.Device.{Device}
use Rattle.mr_desk.specs.declared.fault.Fault.{Fault}
use Rattle.mr_desk.specs.declared.peer.Born.{Born}
use Rattle.mr_c.specs.Given.{IsGiven, by_desk, read_open}
use Rattle.mr_c.specs.declared.failure.Failure.{Failure}
use Rattle.mr_c.specs.declared.failure.Failure.TheVariants.{NotThere, Desk}

-- The counter of the author's highest version that the replica knows is found. Nothing is there where it knows none.
abbrev pub FindsCounter : Result (State Normal) Failure → (author : ℕ) → Result ℕ Failure → Type 0
FindsCounter (Ok s) author (Ok counter) = FindsHighest s author (Ok (Some counter))
FindsCounter (Ok s) author (Err NotThere) = FindsHighest s author (Ok None)
FindsCounter (Ok s) author (Err (Desk fault)) = FindsHighest s author (Err fault)
FindsCounter (Ok s) author (Err failure) = ⊥
FindsCounter (Err failure) author found = found ≡ Err failure

-- It is put into the caller's variable.
abbrev pub GivesCounter : Result (State Normal) Failure → (author : ℕ) → (old new : ℕ) → ℤ → Type 0
GivesCounter replica author old new code = (found : Result ℕ Failure) × FindsCounter replica author found × IsGiven found old new code

-- what was drawn when the file of a kept device was begun
abbrev pub birth_at : Option Device → Result (List ℕ) Failure
birth_at device = read_open (λ d. by_desk (birth_of d)) device

-- A device tells whether what another one tells goes with it, and stays as it is.
abbrev pub Checks : List VersionNumbers → List Born → Device → Result (Unit {0}) Fault → Device → Type 0
Checks highest births old answer new = ChecksPeer old highest births answer × (new ≡ old)
