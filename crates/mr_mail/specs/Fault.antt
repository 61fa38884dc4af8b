-- the number by which a host knows a fault
use Rattle.std.specs.Prelude.{ℕ}
use Rattle.mr_mail.specs.declared.fault.MessageFault.{MessageFault}
use Rattle.mr_mail.specs.declared.fault.MessageFault.TheVariants.{OutOfMemory, FromTooLong, SubjectTooLong, BodyTooLong, BadLabel, TooManyLabels, BadFlags}

abbrev pub fault_number : MessageFault → ℕ
fault_number OutOfMemory = 0
fault_number FromTooLong = 1
fault_number SubjectTooLong = 2
fault_number BodyTooLong = 3
fault_number BadLabel = 4
fault_number TooManyLabels = 5
fault_number BadFlags = 6
