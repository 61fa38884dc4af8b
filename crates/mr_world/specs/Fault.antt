-- the numbers by which a host knows faults
use Rattle.std.specs.Prelude.{ℕ}
use Rattle.mr_world.specs.declared.fault.SpecFault.{SpecFault}
use Rattle.mr_world.specs.declared.fault.SpecFault.TheVariants as spec
use Rattle.mr_world.specs.declared.fault.WorldFault.{WorldFault}
use Rattle.mr_world.specs.declared.fault.WorldFault.TheVariants as world

abbrev pub spec_fault_number : SpecFault → ℕ
spec_fault_number spec.OutOfMemory = 0
spec_fault_number spec.SameReplica = 1
spec_fault_number spec.BadLimit = 2
spec_fault_number spec.NoCapacity = 3

abbrev pub fault_number : WorldFault → ℕ
fault_number world.OutOfMemory = 0
fault_number world.NoSuchReplica = 1
fault_number world.NoSuchFrame = 2
