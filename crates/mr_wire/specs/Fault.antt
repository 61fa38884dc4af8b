-- the number by which a host knows a fault
use Rattle.std.specs.Prelude.{ℕ}
use Rattle.mr_wire.specs.declared.fault.WireFault.{WireFault}
use Rattle.mr_wire.specs.declared.fault.WireFault.TheVariants.{OutOfMemory, Truncated, TooLong, BadFormat, BadKind, BadBody}

abbrev pub fault_number : WireFault → ℕ
fault_number OutOfMemory = 0
fault_number Truncated = 1
fault_number TooLong = 2
fault_number BadFormat = 3
fault_number BadKind = 4
fault_number BadBody = 5
