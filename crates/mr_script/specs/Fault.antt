-- faults of a line and of a script
use Rattle.std.specs.Prelude.{ℕ, ◌+◌, ◌≤◌, ⊤}
use Rattle.mr_world.specs.declared.fault.SpecFault.{SpecFault}
use Rattle.mr_world.specs.declared.fault.SpecFault.TheVariants as specs
use Rattle.mr_world.specs.declared.fault.WorldFault.{WorldFault}
use Rattle.mr_world.specs.declared.fault.WorldFault.TheVariants as stops
use Rattle.mr_command.specs.declared.fault.LineFault.{LineFault}
use Rattle.mr_command.specs.declared.fault.LineFault.TheVariants.{BadCapacity, BadLimit, NoSuchFrame, NoSuchReplica, OutOfMemory, SameReplica}
use Rattle.mr_script.specs.declared.fault.ScriptFault.{ScriptFault}
use Rattle.mr_script.specs.declared.fault.ScriptFault.TheVariants.{Line, Read, Write, TooLong}
use Rattle.mr_script.specs.declared.source.SourceFault.{SourceFault}
use Rattle.mr_script.specs.declared.source.SourceFault.TheVariants as source
use Rattle.mr_script.specs.declared.source.TheConstants.{MAX_SCRIPT_BYTES}

-- why a line ends where its world stopped
abbrev pub fault_of_stop : WorldFault → LineFault
fault_of_stop stops.OutOfMemory = OutOfMemory
fault_of_stop stops.NoSuchReplica = NoSuchReplica
fault_of_stop stops.NoSuchFrame = NoSuchFrame

-- why a line ends where no world can be made
abbrev pub fault_of_spec : SpecFault → LineFault
fault_of_spec specs.OutOfMemory = OutOfMemory
fault_of_spec specs.SameReplica = SameReplica
fault_of_spec specs.BadLimit = BadLimit
fault_of_spec specs.NoCapacity = BadCapacity

-- what ends a script whose line of this number can't be had
abbrev pub fault_of_source : ℕ → SourceFault → ScriptFault
fault_of_source number source.OutOfMemory = Line number OutOfMemory
fault_of_source number source.Read = Read
fault_of_source number source.TooLong = TooLong

-- a fault of a line has its number, from 1 to one past the most lines that a script can have
abbrev pub NumbersItsLine : ScriptFault → Type 0
NumbersItsLine (Line number fault) = (1 ≤ number) × (number ≤ MAX_SCRIPT_BYTES + 1)
NumbersItsLine Read = ⊤
NumbersItsLine Write = ⊤
NumbersItsLine TooLong = ⊤
