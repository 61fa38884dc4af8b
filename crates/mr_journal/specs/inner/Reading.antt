-- what is found at the places of a file, one after the other
use Rattle.std.specs.Prelude.{◌≡◌, ◌≢◌, ℕ, ◌<◌, ◌^◌, Bool, true, false, List, [], ◌∷◌, ◌++◌, length, Option, Some, None, Result, Ok, Err, Vec}
use Rattle.std.specs.declared.alloc.Global.{Global}
use Rattle.mr_journal.specs.declared.fault.JournalFault.{JournalFault}
use Rattle.mr_journal.specs.declared.fault.JournalFault.TheVariants.{OutOfMemory, Failed, NotAJournal, OtherFormat, Damaged}
use Rattle.mr_journal.specs.declared.read.BatchHead.{BatchHead}
use Rattle.mr_journal.specs.declared.read.BatchHead.TheVariants.{Closed, Open, Broken}
use Rattle.mr_journal.specs.declared.restore.Found.{Found}
use Rattle.mr_journal.specs.Device.{Rests}
use Rattle.mr_journal.specs.Format.{AreBatches, AreEntries, IsNew, Stands, body, contents, head, u64}
use Rattle.mr_journal.specs.inner.Format.{IsRead, framed}
use Rattle.mr_journal.specs.Reading.{IsReason}

-- no closed gate and no whole body stands at the front of these bytes
pub record IsNothing (rest : List ℕ) : Type 0 where
  pub no_gate : (left : List ℕ) → rest ≢ 0 ∷ left
  pub no_body : (bytes left : List ℕ) → length bytes < 2 ^ 64 → rest ≢ framed bytes left

-- what the front of a batch says
abbrev pub IsHead : BatchHead → List ℕ → Type 0
IsHead Closed bytes = (left : List ℕ) × (bytes ≡ 0 ∷ left)
IsHead (Open size digest) bytes = (bytes ≡ 1 ∷ (u64 size ++ digest)) × (length digest ≡ 32) × (size < 2 ^ 64)
IsHead Broken bytes = ((left : List ℕ) → bytes ≢ 0 ∷ left) × ((size : ℕ) (digest : List ℕ) → length digest ≡ 32 → bytes ≢ 1 ∷ (u64 size ++ digest))

-- what stands at a place: a closed gate, a whole body, or neither
abbrev pub IsFound : Result (Option (Vec ℕ Global)) JournalFault → ℕ → List ℕ → Type 0
IsFound (Ok None) place rest = (left : List ℕ) × (rest ≡ 0 ∷ left)
IsFound (Ok (Some bytes)) place rest = (left : List ℕ) × (rest ≡ framed bytes.items left)
IsFound (Err (Damaged at)) place rest = (at ≡ place) × IsNothing rest
IsFound (Err OutOfMemory) place rest = Unit {0}
IsFound (Err Failed) place rest = Unit {0}
IsFound (Err _) place rest = ⊥

-- a body was split into entries, which joined those before, or is none
abbrev pub IsSplit : Bool → List ℕ → List (List ℕ) → List (List ℕ) → Type 0
IsSplit true bytes before now = (entries : List (List ℕ)) × AreEntries entries × (bytes ≡ body entries) × (now ≡ before ++ entries)
IsSplit false bytes before now = (entries : List (List ℕ)) → AreEntries entries → bytes ≢ body entries

-- the batches behind a head were read, or are damaged
abbrev pub AreRead : Result (Vec (Vec ℕ Global) Global × ℕ) JournalFault → List ℕ → Type 0
AreRead (Ok read) file = IsRead (contents read.0.items) read.1 file
AreRead (Err fault) file = IsReason fault file

-- whether the first bytes are a head that is read here
abbrev pub IsHeadOf : Result (Unit {0}) JournalFault → List ℕ → Type 0
IsHeadOf (Ok _) first = first ≡ head 1
IsHeadOf (Err NotAJournal) first = (format : ℕ) → format < 2 ^ 16 → first ≢ head format
IsHeadOf (Err (OtherFormat format)) first = (first ≡ head format) × (format < 2 ^ 16) × (format ≢ 1)
IsHeadOf (Err _) first = ⊥

-- what was found in a file: no journal yet, or its entries, the place of the closed gate behind them and the file's length
abbrev pub IsExamined : Result (Option Found) JournalFault → List ℕ → Type 0
IsExamined (Ok None) file = IsNew file
IsExamined (Ok (Some found)) file = IsRead (contents found.entries.items) found.gate file × (found.len ≡ length file)
IsExamined (Err fault) file = IsReason fault file

-- A device has the batches of these entries and a closed gate at this place, and nothing else; its file stood for the same entries.
pub record IsRestored {D : Type 0} (seen : D → List ℕ) (may_leave : D → List ℕ → Type 0) (entries : List (List ℕ)) (place : ℕ) (old : List ℕ) (device : D) : Type 0 where
  pub stood : Stands entries old
  pub front : List ℕ
  pub batches : AreBatches entries front
  pub place_is : length front ≡ place
  pub rests : Rests seen may_leave (front ++ (0 ∷ [])) device
