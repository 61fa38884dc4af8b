-- the number by which a host knows a fault, and which faults a commit has
use Rattle.std.specs.Prelude.{ℕ}
use Rattle.mr_journal.specs.declared.fault.JournalFault.{JournalFault}
use Rattle.mr_journal.specs.declared.fault.JournalFault.TheVariants.{OutOfMemory, Failed, NotAJournal, OtherFormat, Damaged, TooLarge}

abbrev pub fault_number : JournalFault → ℕ
fault_number OutOfMemory = 0
fault_number Failed = 1
fault_number NotAJournal = 2
fault_number (OtherFormat _) = 3
fault_number (Damaged _) = 4
fault_number TooLarge = 5

-- a fault of a commit: of memory, of the device, or of the batch's size
abbrev pub IsOfBatch : JournalFault → Type 0
IsOfBatch OutOfMemory = Unit {0}
IsOfBatch Failed = Unit {0}
IsOfBatch NotAJournal = ⊥
IsOfBatch (OtherFormat _) = ⊥
IsOfBatch (Damaged _) = ⊥
IsOfBatch TooLarge = Unit {0}
