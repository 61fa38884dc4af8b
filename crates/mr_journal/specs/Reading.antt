-- why a file is refused as a journal
use Rattle.std.specs.Prelude.{◌≡◌, ◌≢◌, ℕ, ◌<◌, ◌^◌, List, ◌++◌}
use Rattle.mr_journal.specs.declared.fault.JournalFault.{JournalFault}
use Rattle.mr_journal.specs.declared.fault.JournalFault.TheVariants.{OutOfMemory, Failed, NotAJournal, OtherFormat, Damaged, TooLarge}
use Rattle.mr_journal.specs.Format.{IsDamagedAt, IsNew, head}

-- why a file is refused; of memory and of the device it says nothing
abbrev pub IsReason : JournalFault → List ℕ → Type 0
IsReason OutOfMemory file = Unit {0}
IsReason Failed file = Unit {0}
IsReason NotAJournal file = (IsNew file → ⊥) × ((format : ℕ) (rest : List ℕ) → format < 2 ^ 16 → file ≢ head format ++ rest)
IsReason (OtherFormat format) file = (rest : List ℕ) × (file ≡ head format ++ rest) × (format < 2 ^ 16) × (format ≢ 1)
IsReason (Damaged place) file = IsDamagedAt place file
IsReason TooLarge file = ⊥
