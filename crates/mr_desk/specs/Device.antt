-- a device, plain or kept: what it shows, and what it does
use Rattle.std.specs.Prelude.{◌≡◌, ℕ, Bool, true, false, if◌then◌else◌, List, Result, Ok, Err, IsOk}
use Rattle.std.specs.Borrow.{Bor}
use Rattle.mr_itemset.specs.Normal.{Normal}
use Rattle.mr_entry.specs.Note.{NoteParts}
use Rattle.mr_hosted.specs.Hosted.{Settled, acts_left, handed_out, is_settled, may_show}
use Rattle.mr_hosted.specs.declared.act.Act.{Act}
use Rattle.mr_replica.specs.State.{State}
use Rattle.mr_replica.specs.declared.event.Reply.{Reply}
use Rattle.mr_desk.specs.Kept.{KeptAnswers, KeptCommits, KeptMerges, inside}
use Rattle.mr_desk.specs.Serves.{Answers, Merges}
use Rattle.mr_desk.specs.declared.call.Call.{Call}
use Rattle.mr_desk.specs.declared.call.VersionNumbers.{VersionNumbers}
use Rattle.mr_desk.specs.declared.device.Device.{Device}
use Rattle.mr_desk.specs.declared.device.Device.TheVariants.{Plain, Kept, Failed}
use Rattle.mr_desk.specs.declared.fault.Fault.{Fault}
use Rattle.mr_desk.specs.declared.fault.Fault.TheVariants as fault
use Rattle.mr_desk.specs.declared.reply.Told.{Told}

-- what is found behind a loan
abbrev pub lent : {X E : Type 0} → Result (Bor X) E → Result X E
lent (Ok found) = Ok found.now
lent (Err fault) = Err fault

-- the replica, once all that is in it is in the file of a kept device
abbrev pub shown : Device → Result (State Normal) Fault
shown (Plain desk) = Ok desk.replica
shown (Kept h notes) = if may_show h then Ok (inside h) else Err fault.Unsettled
shown Failed = Err fault.Failed

-- the frame of a plain device
abbrev pub frame_of : Device → Result (List ℕ) Fault
frame_of (Plain desk) = Ok desk.frame
frame_of (Kept h notes) = Err fault.OtherDevice
frame_of Failed = Err fault.Failed

-- what the host of a kept device has to do
abbrev pub acts_of : Device → Result (List Act) Fault
acts_of (Plain desk) = Err fault.OtherDevice
acts_of (Kept h notes) = Ok (acts_left h)
acts_of Failed = Err fault.Failed

-- what the last commit of a kept device hands out, once the host has done its acts
abbrev pub replies_of : Device → Result (List Reply) Fault
replies_of (Plain desk) = Err fault.OtherDevice
replies_of (Kept h notes) = if may_show h then Ok (handed_out h) else Err fault.Unsettled
replies_of Failed = Err fault.Failed

-- the notes that the opening of a kept device found
abbrev pub notes_found : Device → Result (List NoteParts) Fault
notes_found (Plain desk) = Err fault.OtherDevice
notes_found (Kept h notes) = Ok notes.items
notes_found Failed = Err fault.Failed

-- A device answers a call as what it is, and stays that.
abbrev pub DeviceAnswers : Device → Call → Result Told Fault → Device → Type 0
DeviceAnswers (Plain s) call answer (Plain n) = Answers s call answer n
DeviceAnswers (Kept h notes) call answer (Kept n same) = KeptAnswers h call answer n × (same ≡ notes)
DeviceAnswers Failed call answer new = (answer ≡ Err fault.Failed) × (new ≡ Failed)
DeviceAnswers old call answer new = ⊥

-- A device merges the heads of an item as what it is, and stays that.
abbrev pub DeviceMerges : Device → VersionNumbers → Result Told Fault → Device → Type 0
DeviceMerges (Plain s) item answer (Plain n) = Merges s item answer n
DeviceMerges (Kept h notes) item answer (Kept n same) = KeptMerges h item answer n × (same ≡ notes)
DeviceMerges Failed item answer new = (answer ≡ Err fault.Failed) × (new ≡ Failed)
DeviceMerges old item answer new = ⊥

-- A kept device commits. Where there is no memory to note an act, it has failed.
abbrev pub Commits : Device → Result (Unit {0}) Fault → Device → Type 0
Commits (Plain s) answer new = (answer ≡ Err fault.OtherDevice) × (new ≡ Plain s)
Commits (Kept h notes) (Err fault.Failed) new = (is_settled h ≡ true) × (new ≡ Failed)
Commits (Kept h notes) answer (Kept n same) = KeptCommits h answer n × (same ≡ notes)
Commits (Kept h notes) answer new = ⊥
Commits Failed answer new = (answer ≡ Err fault.Failed) × (new ≡ Failed)

-- The host of a kept device has done all acts, or one of them failed: then so has the device.
abbrev pub Settles : Device → Bool → Result (Unit {0}) Fault → Device → Type 0
Settles (Plain s) went_well answer new = (answer ≡ Err fault.OtherDevice) × (new ≡ Plain s)
Settles (Kept h notes) true answer (Kept n same) = IsOk answer × Settled h n × (same ≡ notes)
Settles (Kept h notes) true answer new = ⊥
Settles (Kept h notes) false answer new = IsOk answer × (new ≡ Failed)
Settles Failed went_well answer new = (answer ≡ Err fault.Failed) × (new ≡ Failed)
