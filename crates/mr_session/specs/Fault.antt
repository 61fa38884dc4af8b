-- the numbers of faults
use Rattle.std.specs.Prelude.{ℕ}
use Rattle.mr_session.specs.declared.fault.SessionFault.{SessionFault}
use Rattle.mr_session.specs.declared.fault.SessionFault.TheVariants.{NotStart, OtherStream, Repeated, Gap}

-- the number of a fault
abbrev pub fault_number : SessionFault → ℕ
fault_number NotStart = 13
fault_number OtherStream = 14
fault_number Repeated = 15
fault_number Gap = 16
