-- what a replica tells another one of what it knows, and what goes with this one
use Rattle.std.specs.Prelude.{◌≡◌, ℕ, true, false, if◌then◌else◌, All, MatchOption, List, map, Option, Some, None, Result, Ok, Err}
use Rattle.std.specs.List.{list_all}
use Rattle.std.specs.Option.{option_map}
use Rattle.mr_version.specs.declared.fault.VersionFault.{VersionFault}
use Rattle.mr_version.specs.declared.fault.VersionFault.TheVariants.{NoSuchAuthor}
use Rattle.mr_itemset.specs.Normal.{Normal}
use Rattle.mr_itemset.specs.Sparing.{sparing_form}
use Rattle.mr_lookup.specs.Highest.{HasNone, IsHighest}
use Rattle.mr_replica.specs.Fragments.{HasHoleyPart}
use Rattle.mr_replica.specs.Refusal.{◌orelse◌}
use Rattle.mr_replica.specs.State.{State}
use Rattle.mr_replica.specs.declared.refusal.Refusal.TheVariants as refusal
use Rattle.mr_entry.specs.Head.{HeadParts}
use Rattle.mr_kept.specs.Kept.{head_of, issued_of}
use Rattle.mr_kept.specs.Peer.{IsAbove, IsOther, IsPeerFault}
use Rattle.mr_kept.specs.declared.peer.PeerFault.{PeerFault}
use Rattle.mr_hosted.specs.Hosted.{journaled_of, may_show}
use Rattle.mr_hosted.specs.declared.hosted.Hosted.{Hosted}
use Rattle.mr_desk.specs.Fault.{Reads}
use Rattle.mr_desk.specs.Version.{first_version_fault, is_author, named_by}
use Rattle.mr_desk.specs.declared.call.VersionNumbers.{VersionNumbers}
use Rattle.mr_desk.specs.declared.device.Device.{Device}
use Rattle.mr_desk.specs.declared.device.Device.TheVariants.{Plain, Kept, Failed}
use Rattle.mr_desk.specs.declared.fault.Fault.{Fault}
use Rattle.mr_desk.specs.declared.fault.Fault.TheVariants as fault
use Rattle.mr_desk.specs.declared.peer.Born.{Born}

-- ---- what is told

-- The counter of the author's highest version that the replica knows, of whatever item; or that it knows none. Or why neither is told.
abbrev pub FindsHighest : State Normal → (author : ℕ) → Result (Option ℕ) Fault → Type 0
FindsHighest s author (Ok found) = (is_author author ≡ true) × ¬ HasHoleyPart (sparing_form.is_part s.knowledge) × MatchOption found (HasNone (sparing_form.known s.knowledge) author) (IsHighest (sparing_form.known s.knowledge) author)
FindsHighest s author (Err (fault.Version f)) = (is_author author ≡ false) × (f ≡ NoSuchAuthor)
FindsHighest s author (Err (fault.Refused refusal.TooManyHoles)) = (is_author author ≡ true) × HasHoleyPart (sparing_form.is_part s.knowledge)
FindsHighest s author (Err (fault.Refused refusal.OutOfMemory)) = is_author author ≡ true
FindsHighest s author (Err f) = ⊥

-- what was drawn when the file of a kept device was begun
abbrev pub birth_of : Device → Result (List ℕ) Fault
birth_of (Plain desk) = Err fault.OtherDevice
birth_of (Kept h notes) = if may_show h then Ok (head_of (journaled_of h)).birth else Err fault.Unsettled
birth_of Failed = Err fault.Failed

-- ---- what is heard

-- the journal that is handed over
abbrev pub journal_by : Born → ℕ × List ℕ
journal_by b = (b.author, b.birth)

-- why these are no journals
abbrev pub births_fault : List Born → Option VersionFault
births_fault births = if list_all (λ b. is_author b.author) births then None else Some NoSuchAuthor

-- why what is handed over can't be heard: the versions first
abbrev pub heard_fault : List VersionNumbers → List Born → Option Fault
heard_fault highest births = option_map fault.Version (first_version_fault highest) orelse option_map fault.Version (births_fault births)

-- what is heard goes with the replica of this head that issued so many versions, or why it doesn't
abbrev pub IsVerdict : HeadParts → (issued : ℕ) → List VersionNumbers → List Born → Result (Unit {0}) PeerFault → Type 0
IsVerdict head issued highest births (Ok done) = All (λ v. IsAbove head.id issued v → ⊥) (map named_by highest) × All (λ b. IsOther head.id head.birth b → ⊥) (map journal_by births)
IsVerdict head issued highest births (Err f) = IsPeerFault head.id issued head.birth (map named_by highest) (map journal_by births) f

-- a verdict against it is a fault like that of what can't be heard
abbrev pub told_verdict : Result (Result (Unit {0}) PeerFault) Fault → Result (Unit {0}) Fault
told_verdict (Ok (Ok done)) = Ok done
told_verdict (Ok (Err f)) = Err (fault.Peer f)
told_verdict (Err f) = Err f

module _ {V : Type 0} where
  -- the verdict is on the versions that the replica issued, all of which were committed
  abbrev pub JudgesHeard : Hosted Normal V → List VersionNumbers → List Born → Result (Unit {0}) Fault → Type 0
  JudgesHeard h highest births answer = (verdict : Result (Result (Unit {0}) PeerFault) Fault) × Reads (Unit {0}) (heard_fault highest births) (IsVerdict (head_of (journaled_of h)) (issued_of (journaled_of h)) highest births) verdict × (answer ≡ told_verdict verdict)

  -- it is told where neither an event nor a note waits and the host has no act to do
  pub record JudgesSettled (h : Hosted Normal V) (highest : List VersionNumbers) (births : List Born) (answer : Result (Unit {0}) Fault) : Type 0 where
    pub settled : may_show h ≡ true → JudgesHeard h highest births answer
    pub unsettled : may_show h ≡ false → answer ≡ Err fault.Unsettled

-- A kept device tells whether what another one tells goes with it.
abbrev pub ChecksPeer : Device → List VersionNumbers → List Born → Result (Unit {0}) Fault → Type 0
ChecksPeer (Plain desk) highest births answer = answer ≡ Err fault.OtherDevice
ChecksPeer (Kept h notes) highest births answer = JudgesSettled h highest births answer
ChecksPeer Failed highest births answer = answer ≡ Err fault.Failed
