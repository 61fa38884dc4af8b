-- how the program ends: the exit status
use Rattle.std.specs.Prelude.{ℕ}
use Rattle.mailfold.specs.declared.ending.Ending.{Ending}
use Rattle.mailfold.specs.declared.ending.Ending.TheVariants.{Done, Stopped, WrongCommandLine, Cut, InUse}

-- 0 where all was done, 1 for a fault, 2 for a wrong command line, 3 where a sync was cut short, 4 where the folder is in use
abbrev pub status_of : Ending → ℕ
status_of Done = 0
status_of Stopped = 1
status_of WrongCommandLine = 2
status_of Cut = 3
status_of InUse = 4
