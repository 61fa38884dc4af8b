-- faults by their numbers
use Rattle.std.specs.Prelude.{ℕ}
use Rattle.mr_maildir.specs.declared.plan.FileFault.{FileFault}
use Rattle.mr_maildir.specs.declared.plan.FileFault.TheVariants as plan
use Rattle.mr_fold.specs.declared.fault.SettleFault.{SettleFault}
use Rattle.mr_fold.specs.declared.fault.SettleFault.TheVariants.{OutOfMemory, TooManyFolders, NotHeld, Kept, Files, NameTaken, Changed}

-- the number by which a host knows a fault
abbrev pub settle_fault_number : SettleFault → ℕ
settle_fault_number OutOfMemory = 0
settle_fault_number (TooManyFolders digest) = 1
settle_fault_number NotHeld = 2
settle_fault_number (Kept fault) = 3
settle_fault_number Files = 4
settle_fault_number NameTaken = 5
settle_fault_number Changed = 6

-- what a plan of files that failed is for a settling
abbrev pub settle_fault_of_plan : FileFault → SettleFault
settle_fault_of_plan plan.OutOfMemory = OutOfMemory
settle_fault_of_plan plan.NameTaken = NameTaken
