-- numbers of faults
use Rattle.std.specs.Prelude.{◌≡◌, ℕ}
use Rattle.mr_forms.specs.declared.fault.FormFault.{FormFault}
use Rattle.mr_forms.specs.declared.fault.FormFault.TheVariants as form
use Rattle.mr_talk.specs.declared.packed.PackedFault.{PackedFault}
use Rattle.mr_talk.specs.declared.packed.PackedFault.TheVariants as packed
use Rattle.mr_wire.specs.declared.fault.WireFault.{WireFault}
use Rattle.mr_wire.specs.declared.fault.WireFault.TheVariants as wire
use Rattle.mr_sync.specs.declared.fault.SyncFault.{SyncFault}
use Rattle.mr_sync.specs.declared.fault.SyncFault.TheVariants.{OutOfMemory, Kept, Files, Knowledge, Itself, SameId, Renewed, PeerIsOldCopy, OldCopy, NotMet, Frame, OtherFrame, OtherSide, BadList, NoFile, OtherFile, HalfFile, TooLong, Unfinished, OtherHistory, PeerWentOn}

-- 0 where memory ran out, and from 1 in the order of the variants
abbrev pub sync_fault_number : SyncFault → ℕ
sync_fault_number OutOfMemory = 0
sync_fault_number (Kept e) = 1
sync_fault_number Files = 2
sync_fault_number (Knowledge e) = 3
sync_fault_number (Itself id) = 4
sync_fault_number (SameId id) = 5
sync_fault_number (Renewed id) = 6
sync_fault_number (PeerIsOldCopy id) = 7
sync_fault_number (OldCopy id) = 8
sync_fault_number NotMet = 9
sync_fault_number (Frame e) = 10
sync_fault_number OtherFrame = 11
sync_fault_number OtherSide = 12
sync_fault_number BadList = 13
sync_fault_number NoFile = 14
sync_fault_number OtherFile = 15
sync_fault_number HalfFile = 16
sync_fault_number TooLong = 17
sync_fault_number Unfinished = 18
sync_fault_number (OtherHistory id) = 19
sync_fault_number (PeerWentOn id) = 20

-- the number is that of a fault of which this holds
pub record IsToldFor (P : SyncFault → Type 0) (number : ℕ) : Type 0 where
  pub fault : SyncFault
  pub number_is : number ≡ sync_fault_number fault
  pub holds : P fault

-- the fault that one of a lower layer is: want of memory is that alone
abbrev pub fault_of_form : FormFault → SyncFault
fault_of_form form.OutOfMemory = OutOfMemory
fault_of_form e = Knowledge e

abbrev pub fault_of_wire : WireFault → SyncFault
fault_of_wire wire.OutOfMemory = OutOfMemory
fault_of_wire e = Frame e

abbrev pub fault_of_packed : PackedFault → SyncFault
fault_of_packed packed.OutOfMemory = OutOfMemory
fault_of_packed packed.BadToken = BadList
fault_of_packed packed.TooLong = BadList
