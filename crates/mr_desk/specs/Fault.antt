-- faults: their numbers, and what is read with one
use Rattle.std.specs.Prelude.{◌≡◌, ◌+◌, ◌*◌, ◌==◌, ℕ, if◌then◌else◌, Option, Some, None, Result, Ok, Err}
use Rattle.mr_version.specs.Fault.{fault_number as version_number}
use Rattle.mr_mail.specs.Fault.{fault_number as message_number}
use Rattle.mr_filter.specs.Fault.{fault_number as filter_number}
use Rattle.mr_maildir.specs.Policy.{fault_number as merge_number}
use Rattle.mr_wire.specs.Fault.{fault_number as wire_number}
use Rattle.mr_entry.specs.Fault.{event_fault_number as event_number}
use Rattle.mr_replica.specs.Replay.{replay_fault_number}
use Rattle.mr_replica.specs.Refusal.{refusal_number}
use Rattle.mr_journal.specs.Fault.{fault_number as journal_number}
use Rattle.mr_kept.specs.Fault.{open_fault_number, peer_fault_number}
use Rattle.mr_kept.specs.declared.fault.KeptFault.{KeptFault}
use Rattle.mr_kept.specs.declared.fault.KeptFault.TheVariants as kept
use Rattle.mr_kept.specs.declared.fault.OpenFault.{OpenFault}
use Rattle.mr_kept.specs.declared.fault.OpenFault.TheVariants as opens
use Rattle.mr_mail.specs.declared.fault.MessageFault.{MessageFault}
use Rattle.mr_mail.specs.declared.fault.MessageFault.TheVariants as message
use Rattle.mr_maildir.specs.declared.policy.MergeFault.{MergeFault}
use Rattle.mr_maildir.specs.declared.policy.MergeFault.TheVariants as merge
use Rattle.mr_filter.specs.declared.fault.FilterFault.{FilterFault}
use Rattle.mr_filter.specs.declared.fault.FilterFault.TheVariants as filter
use Rattle.mr_wire.specs.declared.fault.WireFault.{WireFault}
use Rattle.mr_wire.specs.declared.fault.WireFault.TheVariants as wire
use Rattle.mr_entry.specs.declared.event.fault.EventFault.{EventFault}
use Rattle.mr_entry.specs.declared.event.fault.EventFault.TheVariants as event
use Rattle.mr_desk.specs.declared.fault.Fault.{Fault}
use Rattle.mr_desk.specs.declared.fault.Fault.TheVariants.{OutOfMemory, NotText, BytesBehind, OtherFrame, Unsettled, Failed, OtherDevice, TooLarge, BadLength, NoConflict, Version, Message, Filter, Wire, Event, Replay, Refused, Open, Merge, Peer}

-- the number of a fault of a family, which numbers want of memory 0
abbrev pub in_family : ℕ → ℕ → ℕ
in_family family number = if number == 0 then 1 else family * 256 + number

-- the number of a fault that a kept desk has
abbrev pub kept_number : KeptFault → ℕ
kept_number kept.OutOfMemory = 1
kept_number (kept.Refused refusal) = in_family 7 (refusal_number refusal)
kept_number kept.Failed = 10
kept_number kept.TooLarge = 12
kept_number kept.Unsettled = 9

-- of a fault of opening a file: that of the fault which it carries, where it carries one of a family
abbrev pub open_number : OpenFault → ℕ
open_number (opens.Journal fault) = in_family 9 (journal_number fault)
open_number (opens.Kept fault) = kept_number fault
open_number (opens.BadFilter fault) = in_family 3 (filter_number fault)
open_number (opens.Replay fault) = in_family 6 (replay_fault_number fault)
open_number fault = in_family 8 (open_fault_number fault)

-- the number by which a host knows the fault
abbrev pub fault_number : Fault → ℕ
fault_number OutOfMemory = 1
fault_number NotText = 4
fault_number BytesBehind = 7
fault_number OtherFrame = 8
fault_number Unsettled = 9
fault_number Failed = 10
fault_number OtherDevice = 11
fault_number TooLarge = 12
fault_number BadLength = 13
fault_number NoConflict = 14
fault_number (Version fault) = in_family 1 (version_number fault)
fault_number (Message fault) = in_family 2 (message_number fault)
fault_number (Filter fault) = in_family 3 (filter_number fault)
fault_number (Wire fault) = in_family 4 (wire_number fault)
fault_number (Event fault) = in_family 5 (event_number fault)
fault_number (Replay fault) = in_family 6 (replay_fault_number fault)
fault_number (Refused refusal) = in_family 7 (refusal_number refusal)
fault_number (Open fault) = open_number fault
fault_number (Merge fault) = in_family 10 (merge_number fault)
fault_number (Peer fault) = in_family 11 (peer_fault_number fault)

-- the faults of a message, a merge, a filter, a frame and an event as the desk's: where memory was wanting, that is all
abbrev pub of_message : MessageFault → Fault
of_message message.OutOfMemory = OutOfMemory
of_message fault = Message fault

abbrev pub of_merge : MergeFault → Fault
of_merge merge.OutOfMemory = OutOfMemory
of_merge fault = Merge fault

abbrev pub of_filter : FilterFault → Fault
of_filter filter.OutOfMemory = OutOfMemory
of_filter fault = Filter fault

abbrev pub of_wire : WireFault → Fault
of_wire wire.OutOfMemory = OutOfMemory
of_wire fault = Wire fault

abbrev pub of_event : EventFault → Fault
of_event event.OutOfMemory = OutOfMemory
of_event fault = Event fault

-- the faults of a kept replica as the desk's
abbrev pub of_kept : KeptFault → Fault
of_kept kept.OutOfMemory = OutOfMemory
of_kept (kept.Refused refusal) = Refused refusal
of_kept kept.Failed = Failed
of_kept kept.TooLarge = TooLarge
of_kept kept.Unsettled = Unsettled

-- What is read of bytes: the fault that there is, or what is meant where there is none. Memory runs out only where some is needed.
abbrev pub Reads : {X : Type 0} → (NeedsMemory : Type 0) → Option Fault → (X → Type 0) → Result X Fault → Type 0
Reads NeedsMemory fault IsMeant (Ok x) = (fault ≡ None) × IsMeant x
Reads NeedsMemory fault IsMeant (Err OutOfMemory) = NeedsMemory
Reads NeedsMemory fault IsMeant (Err f) = fault ≡ Some f
