use Rattle.std.specs.Prelude.{ℕ}
use Rattle.mr_version.specs.declared.fault.VersionFault.{VersionFault}
use Rattle.mr_version.specs.declared.fault.VersionFault.TheVariants.{NoSuchAuthor, BadVersion}

-- the number of a fault
abbrev pub fault_number : VersionFault → ℕ
fault_number NoSuchAuthor = 1
fault_number BadVersion = 2
