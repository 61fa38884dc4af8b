-- why there is no frame behind a mark
use Rattle.std.specs.Prelude.{◌≡◌, ◌<◌, ℕ, List, length}
use Rattle.mr_version.specs.Name.{Name}
use Rattle.mr_mail.specs.Mail.{Mail}
use Rattle.mr_sync.specs.declared.fault.SyncFault.{SyncFault}
use Rattle.mr_sync.specs.declared.fault.SyncFault.TheVariants.{OutOfMemory, BadList, OtherHistory}
use Rattle.mr_sync.specs.declared.marks.TheConstants.{MARK_BYTES}
use Rattle.mr_sync.specs.Marks.{HasOtherMark}

-- why there is no frame behind a mark of its history
abbrev pub IsMarkFault : (id : ℕ) → List (Name × Mail) → (bytes : List ℕ) → SyncFault → Type 0
IsMarkFault id told bytes OutOfMemory = Unit {0}
IsMarkFault id told bytes BadList = length bytes < MARK_BYTES
IsMarkFault id told bytes (OtherHistory other) = (other ≡ id) × HasOtherMark id told bytes
IsMarkFault id told bytes fault = ⊥
