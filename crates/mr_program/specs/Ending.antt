-- how the program ends: the exit status, and what standard error is told
use Rattle.std.specs.Prelude.{◌≡◌, ◌==◌, ◌||◌, ℕ, nat_le, List, ◌++◌, codes, Bool, true, false, Option, Some, None, Result, Ok, Err}
use Rattle.std.specs.Io.KnownBytes.{Appends}
use Rattle.mr_script.specs.declared.fault.ScriptFault.{ScriptFault}
use Rattle.mr_script.specs.declared.fault.ScriptFault.TheVariants as script
use Rattle.mr_live.specs.declared.fault.LiveFault.{LiveFault}
use Rattle.mr_live.specs.declared.fault.LiveFault.TheVariants as live
use Rattle.mr_program.specs.declared.ending.Fault.TheVariants.{CommandLine, Write, NotTwo, OutOfMemory, Script}
use Rattle.mr_program.specs.declared.ending.Ending.{Ending}
use Rattle.mr_program.specs.declared.ending.Ending.TheVariants.{Done, NoFrame, Unexplained, WrongCommandLine, Closed, Stopped}
use Rattle.mr_program.specs.Text.{fault_text}

-- 0 where all was done, 2 for a wrong command line, 1 for all else; and where nobody reads the output any more, what a shell has of a
-- program that a write to a closed pipe ended: 128 and the number of its signal, 13
abbrev pub status_of : Ending → ℕ
status_of Done = 0
status_of NoFrame = 1
status_of Unexplained = 1
status_of WrongCommandLine = 2
status_of Closed = 141
status_of (Stopped CommandLine) = 2
status_of (Stopped _) = 1

-- the statuses that there are
abbrev pub is_status : ℕ → Bool
is_status status = nat_le status 2 || (status == 141)

-- how the program ends where this ended a script, or nothing did
abbrev pub ending_of : Option ScriptFault → Ending
ending_of None = Done
ending_of (Some fault) = Stopped (Script fault)

-- how the program ends where a live script's logs joined or did not, or this ended it
abbrev pub ending_of_live : Result Bool LiveFault → Ending
ending_of_live (Ok true) = Done
ending_of_live (Ok false) = Unexplained
ending_of_live (Err live.OutOfMemory) = Stopped OutOfMemory
ending_of_live (Err live.NotTwo) = Stopped NotTwo
ending_of_live (Err (live.Script fault)) = Stopped (Script fault)

-- how the program ends whose output ended so: where its reader has closed it, a write fault is that
abbrev pub ending_behind : Bool → Ending → Ending
ending_behind false ending = ending
ending_behind true (Stopped Write) = Closed
ending_behind true (Stopped (Script script.Write)) = Closed
ending_behind true ending = ending

-- a fault is told in one line; of another ending nothing is told
abbrev pub IsTold : {E : Type 0} → Ending → (contents : E → Option (List ℕ)) → (old new : E) → Type 0
IsTold (Stopped fault) contents old new = Appends (contents old) (contents new) (fault_text fault ++ codes "\n")
IsTold Done contents old new = new ≡ old
IsTold NoFrame contents old new = new ≡ old
IsTold Unexplained contents old new = new ≡ old
IsTold WrongCommandLine contents old new = new ≡ old
IsTold Closed contents old new = new ≡ old
