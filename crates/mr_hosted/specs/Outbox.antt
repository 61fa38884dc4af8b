-- what an outbox shows
use Rattle.std.specs.Prelude.{◌≡◌, ◌++◌, ◌∷◌, [], ℕ, Bool, true, List, Result, Ok, Err, length}
use Rattle.mr_journal.specs.declared.device.Device.{Ghosts as DeviceOf}
use Rattle.mr_hosted.specs.Acts.{LeftSince, MayLeave, all_done}
use Rattle.mr_hosted.specs.declared.act.Act.{Act}
use Rattle.mr_hosted.specs.declared.outbox.Outbox.{Outbox}

-- what the host has to do
abbrev pub acts_of : Outbox → List Act
acts_of outbox = outbox.acts.items

-- Where a call answers, one act such as is meant is to be done behind those from before; where it fails, none.
abbrev pub Notes : (IsMeant : Act → Type 0) → {T E : Type 0} → Result T E → (old new : Outbox) → Type 0
Notes IsMeant (Ok _) old new = (a : Act) × IsMeant a × (acts_of new ≡ acts_of old ++ a ∷ [])
Notes IsMeant (Err _) old new = acts_of new ≡ acts_of old

-- the host's file once it has done all of it
abbrev pub file_of : Outbox → List ℕ
file_of outbox = all_done outbox.read.items outbox.acts.items

-- whether a call has failed
abbrev pub outbox_failed : Outbox → Bool
outbox_failed outbox = outbox.failed

-- what the host's file may be after a crash now
abbrev pub may_leave : Outbox → List ℕ → Type 0
may_leave outbox c = MayLeave outbox.read.items outbox.acts.items c

-- how many acts were begun by now
abbrev pub begun : Outbox → ℕ
begun outbox = length outbox.acts.items

-- what the host's file may be after a crash since so many of them were
abbrev pub left_since : Outbox → ℕ → List ℕ → Type 0
left_since outbox t c = LeftSince outbox.read.items outbox.acts.items t c

-- as a device, over a host that does as it is told
abbrev pub outbox_device : DeviceOf Outbox
outbox_device = record { is_told = true; seen = file_of; may_leave = may_leave; moment = begun; left_since = left_since; has_failed = outbox_failed }
