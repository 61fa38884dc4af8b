-- why a folder isn't made, opened or settled: what other faults are, and the numbers
use Rattle.std.specs.Prelude.{ℕ, Option, Some, None}
use Rattle.std.specs.declared.io.Error.{Error}
use Rattle.mr_journal.specs.declared.disk_file.FileFault.{FileFault}
use Rattle.mr_journal.specs.declared.disk_file.FileFault.TheVariants as file
use Rattle.mr_kept.specs.Explained.{explained_kept}
use Rattle.mr_kept.specs.declared.fault.KeptFault.TheVariants as kept
use Rattle.mr_folder.specs.declared.store.StoreFault.{StoreFault}
use Rattle.mr_folder.specs.declared.store.StoreFault.TheVariants as store
use Rattle.mr_compare.specs.declared.compare.CompareFault.{CompareFault}
use Rattle.mr_compare.specs.declared.compare.CompareFault.TheVariants as compare
use Rattle.mr_fold.specs.declared.fault.SettleFault.{SettleFault}
use Rattle.mr_fold.specs.declared.fault.SettleFault.TheVariants as settle
use Rattle.mr_fold.specs.declared.fold_fault.FoldFault.{FoldFault}
use Rattle.mr_fold.specs.declared.fold_fault.FoldFault.TheVariants.{OutOfMemory, NoFolder, NotMade, MadeAlready, InUse, BadSettings, Journal, Files, System, TooManyDeletions, TooManyFolders, NameTaken, Changed, NotHeld, PassedOver}

-- the number by which a host knows a fault
abbrev pub fold_fault_number : FoldFault → ℕ
fold_fault_number OutOfMemory = 0
fold_fault_number (NoFolder said) = 1
fold_fault_number NotMade = 2
fold_fault_number MadeAlready = 3
fold_fault_number InUse = 4
fold_fault_number BadSettings = 5
fold_fault_number (Journal fault) = 6
fold_fault_number Files = 7
fold_fault_number (System said) = 8
fold_fault_number (TooManyDeletions count most) = 9
fold_fault_number (TooManyFolders mail) = 10
fold_fault_number NameTaken = 11
fold_fault_number Changed = 12
fold_fault_number NotHeld = 13
fold_fault_number (PassedOver mails) = 14

-- ---- what the faults of the parts are for a folder

abbrev pub fold_fault_of_file : FileFault → FoldFault
fold_fault_of_file file.InUse = InUse
fold_fault_of_file file.NotAFile = NotMade
fold_fault_of_file (file.System said) = System said

abbrev pub fold_fault_of_compare : CompareFault → FoldFault
fold_fault_of_compare compare.OutOfMemory = OutOfMemory
fold_fault_of_compare (compare.TooManyDeletions count most) = TooManyDeletions count most

abbrev pub fold_fault_of_store : StoreFault → FoldFault
fold_fault_of_store store.OutOfMemory = OutOfMemory
fold_fault_of_store store.Failed = Files

-- that the files failed, with what the system said of it, if it said anything
abbrev pub files_failed : Option Error → FoldFault
files_failed None = Files
files_failed (Some said) = System said

-- a settling's fault, with what the system said of the journal's device and of the files
abbrev pub explained_settle : SettleFault → Option Error → Option Error → FoldFault
explained_settle settle.OutOfMemory journal files = OutOfMemory
explained_settle (settle.TooManyFolders digest) journal files = TooManyFolders (record { digest = digest })
explained_settle settle.NotHeld journal files = NotHeld
explained_settle (settle.Kept kept.OutOfMemory) journal files = OutOfMemory
explained_settle (settle.Kept fault) journal files = Journal (explained_kept fault journal)
explained_settle settle.Files journal files = files_failed files
explained_settle settle.NameTaken journal files = NameTaken
explained_settle settle.Changed journal files = Changed
