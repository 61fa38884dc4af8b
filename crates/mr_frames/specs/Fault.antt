-- the number by which a host knows a fault
use Rattle.std.specs.Prelude.{ℕ}
use Rattle.mr_wire.specs.Fault as wire
use Rattle.mr_frames.specs.declared.fault.FrameFault.{FrameFault}
use Rattle.mr_frames.specs.declared.fault.FrameFault.TheVariants.{Wire, Failed}

abbrev pub fault_number : FrameFault → ℕ
fault_number (Wire fault) = wire.fault_number fault
fault_number Failed = 6
