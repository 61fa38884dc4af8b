-- the numbers by which a host knows faults, and which fault of an entry one of its event is
use Rattle.std.specs.Prelude.{ℕ}
use Rattle.mr_entry.specs.declared.event.fault.EventFault.{EventFault}
use Rattle.mr_entry.specs.declared.event.fault.EventFault.TheVariants as event_fault
use Rattle.mr_entry.specs.declared.fault.EntryFault.{EntryFault}
use Rattle.mr_entry.specs.declared.fault.EntryFault.TheVariants.{OutOfMemory, Truncated, BadKind, OtherFormat, BadBody, BadEvent, TooLong}

abbrev pub event_fault_number : EventFault → ℕ
event_fault_number event_fault.OutOfMemory = 0
event_fault_number event_fault.Truncated = 1
event_fault_number event_fault.TooLong = 2
event_fault_number event_fault.BadForm = 3
event_fault_number event_fault.BadKind = 4
event_fault_number event_fault.BadBody = 5

abbrev pub fault_number : EntryFault → ℕ
fault_number OutOfMemory = 0
fault_number Truncated = 1
fault_number BadKind = 2
fault_number (OtherFormat _) = 3
fault_number BadBody = 4
fault_number (BadEvent _) = 5
fault_number TooLong = 6

-- the fault of an entry whose event has this one
abbrev pub fault_of_event : EventFault → EntryFault
fault_of_event event_fault.OutOfMemory = OutOfMemory
fault_of_event event_fault.Truncated = BadEvent event_fault.Truncated
fault_of_event event_fault.TooLong = BadEvent event_fault.TooLong
fault_of_event event_fault.BadForm = BadEvent event_fault.BadForm
fault_of_event event_fault.BadKind = BadEvent event_fault.BadKind
fault_of_event event_fault.BadBody = BadEvent event_fault.BadBody
