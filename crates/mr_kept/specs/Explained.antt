-- faults with the words of the system
use Rattle.std.specs.Prelude.{ℕ, Option, Some}
use Rattle.std.specs.declared.io.Error.{Error}
use Rattle.mr_journal.specs.declared.fault.JournalFault.TheVariants as journal
use Rattle.mr_kept.specs.declared.fault.KeptFault.{KeptFault}
use Rattle.mr_kept.specs.declared.fault.KeptFault.TheVariants as kept
use Rattle.mr_kept.specs.declared.fault.OpenFault.{OpenFault}
use Rattle.mr_kept.specs.declared.fault.OpenFault.TheVariants as opens
use Rattle.mr_kept.specs.declared.fault.ExplainedFault.{ExplainedFault}
use Rattle.mr_kept.specs.declared.fault.ExplainedFault.TheVariants.{Kept, Open, Device}

-- what the system said takes the place of a fault of the device
abbrev pub explained_kept : KeptFault → Option Error → ExplainedFault
explained_kept kept.Failed (Some said) = Device said
explained_kept fault said = Kept fault

abbrev pub explained_open : OpenFault → Option Error → ExplainedFault
explained_open (opens.Journal journal.Failed) (Some said) = Device said
explained_open (opens.Kept kept.Failed) (Some said) = Device said
explained_open fault said = Open fault

abbrev pub explained_fault_number : ExplainedFault → ℕ
explained_fault_number (Kept kept.OutOfMemory) = 0
explained_fault_number (Open opens.OutOfMemory) = 0
explained_fault_number (Kept _) = 1
explained_fault_number (Open _) = 2
explained_fault_number (Device _) = 3
