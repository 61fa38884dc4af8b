-- the number of a fault
use Rattle.std.specs.Prelude.{ℕ}
use Rattle.mr_live.specs.declared.fault.LiveFault.{LiveFault}
use Rattle.mr_live.specs.declared.fault.LiveFault.TheVariants.{OutOfMemory, Script, NotTwo}

-- the number by which a host knows the fault
abbrev pub live_fault_number : LiveFault → ℕ
live_fault_number OutOfMemory = 0
live_fault_number (Script fault) = 1
live_fault_number NotTwo = 2
