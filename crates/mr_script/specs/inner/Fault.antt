-- a reader's errors
use Rattle.std.specs.declared.io.ErrorKind.{ErrorKind}
use Rattle.std.specs.declared.io.ErrorKind.TheVariants as kinds
use Rattle.mr_script.specs.declared.source.SourceFault.{SourceFault}
use Rattle.mr_script.specs.declared.source.SourceFault.TheVariants as source

-- why a reader's error of this kind keeps the next line away
abbrev pub fault_of_kind : ErrorKind → SourceFault
fault_of_kind kinds.OutOfMemory = source.OutOfMemory
fault_of_kind kind = source.Read
