-- how the faults of messages and filters are told
use Rattle.mr_mail.specs.Fault.{fault_number}
use Rattle.mr_mail.specs.declared.fault.MessageFault.{MessageFault}
use Rattle.mr_mail.specs.declared.fault.MessageFault.TheVariants.{OutOfMemory as NoMemory}
use Rattle.mr_filter.specs.declared.fault.FilterFault.{FilterFault}
use Rattle.mr_filter.specs.declared.fault.FilterFault.TheVariants as filters
use Rattle.mr_command.specs.declared.fault.LineFault.{LineFault}
use Rattle.mr_command.specs.declared.fault.LineFault.TheVariants.{OutOfMemory, MessageRefused, BadFilter, TooManyClauses, TooManyLabels}

-- how a line tells that words make no message: out of memory as such, all else by its number
abbrev pub fault_of_message : MessageFault → LineFault
fault_of_message NoMemory = OutOfMemory
fault_of_message fault = MessageRefused (fault_number fault)

-- how a line tells that a text is no filter
abbrev pub fault_of_filter : FilterFault → LineFault
fault_of_filter filters.OutOfMemory = OutOfMemory
fault_of_filter (filters.BadFilter place) = BadFilter place
fault_of_filter filters.TooManyClauses = TooManyClauses
fault_of_filter filters.TooManyLabels = TooManyLabels
