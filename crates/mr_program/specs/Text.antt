-- what standard error says of a fault
use Rattle.std.specs.Prelude.{ℕ, List, ◌++◌, codes}
use Rattle.std.specs.Fmt.{decimal}
use Rattle.mr_command.specs.declared.fault.LineFault.{LineFault}
use Rattle.mr_command.specs.declared.fault.LineFault.TheVariants.{NotText, UnknownCommand, WrongWords, BadNumber, BadVersion, BadDate, BadFlags, BadFilter, TooManyClauses, TooManyLabels, MessageRefused, LateReplica, SameReplica, BadLimit, BadCapacity, NoSuchReplica, NoSuchFrame}
use Rattle.mr_command.specs.declared.fault.LineFault.TheVariants as line
use Rattle.mr_script.specs.declared.fault.ScriptFault.{ScriptFault}
use Rattle.mr_script.specs.declared.fault.ScriptFault.TheVariants.{Line, Read, TooLong}
use Rattle.mr_script.specs.declared.fault.ScriptFault.TheVariants as script
use Rattle.mr_program.specs.declared.ending.Fault.{Fault}
use Rattle.mr_program.specs.declared.ending.Fault.TheVariants.{CommandLine, Write, OutOfMemory, NotTwo, Script}

-- the fault of a line, behind its number
abbrev pub line_fault_text : LineFault → List ℕ
line_fault_text NotText = codes "not text"
line_fault_text UnknownCommand = codes "unknown command"
line_fault_text WrongWords = codes "wrong words"
line_fault_text BadNumber = codes "bad number"
line_fault_text BadVersion = codes "bad version"
line_fault_text BadDate = codes "bad date"
line_fault_text BadFlags = codes "bad flags"
line_fault_text (BadFilter place) = codes "bad filter at " ++ decimal place
line_fault_text TooManyClauses = codes "too many clauses"
line_fault_text TooManyLabels = codes "too many labels"
line_fault_text (MessageRefused number) = codes "message refused " ++ decimal number
line_fault_text LateReplica = codes "replica after the first event"
line_fault_text SameReplica = codes "same replica"
line_fault_text BadLimit = codes "bad limit"
line_fault_text BadCapacity = codes "bad capacity"
line_fault_text NoSuchReplica = codes "no such replica"
line_fault_text NoSuchFrame = codes "no such frame"
line_fault_text line.OutOfMemory = codes "out of memory"

-- why a script ended before its end
abbrev pub script_fault_text : ScriptFault → List ℕ
script_fault_text (Line number fault) = codes "line " ++ decimal number ++ codes ": " ++ line_fault_text fault
script_fault_text Read = codes "read fault"
script_fault_text script.Write = codes "write fault"
script_fault_text TooLong = codes "script too long"

-- why the program ended before its end
abbrev pub fault_text : Fault → List ℕ
fault_text CommandLine = codes "error: the command line is not text"
fault_text Write = codes "write fault"
fault_text OutOfMemory = codes "out of memory"
fault_text NotTwo = codes "live needs two replicas"
fault_text (Script fault) = script_fault_text fault
