-- the number by which a host knows why a file isn't opened
use Rattle.std.specs.Prelude.{ℕ}
use Rattle.mr_journal.specs.declared.disk_file.FileFault.{FileFault}
use Rattle.mr_journal.specs.declared.disk_file.FileFault.TheVariants.{InUse, NotAFile, System}

abbrev pub file_fault_number : FileFault → ℕ
file_fault_number InUse = 1
file_fault_number NotAFile = 2
file_fault_number (System _) = 3
