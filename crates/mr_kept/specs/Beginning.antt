-- the head of a journal that is begun, and why none is
use Rattle.std.specs.Prelude.{◌≡◌, ◌≢◌, ◌≤◌, ◌^◌, ◌∷◌, [], ℕ, List, length}
use Rattle.mr_filter.specs.Filter.{ClauseParts}
use Rattle.mr_filter.specs.Grammar.{Reads}
use Rattle.mr_journal.specs.Format.{AreBatches, Fits, Stands}
use Rattle.mr_journal.specs.Reading.{IsReason}
use Rattle.mr_journal.specs.declared.fault.JournalFault.{JournalFault}
use Rattle.mr_journal.specs.declared.fault.JournalFault.TheVariants.{TooLarge}
use Rattle.mr_replica.specs.declared.replica.TheConstants.{MAX_EVENTS}
use Rattle.mr_replica.specs.declared.replica.replay.ReplayFault.TheVariants.{BadLimit, Refused}
use Rattle.mr_entry.specs.Head.{HeadParts}
use Rattle.mr_entry.specs.Spelling.{entry_bytes}
use Rattle.mr_entry.specs.declared.entry.Entry.TheVariants as entry
use Rattle.mr_entry.specs.declared.fault.EntryFault.TheVariants.{TooLong}
use Rattle.mr_kept.specs.declared.fault.OpenFault.{OpenFault}
use Rattle.mr_kept.specs.declared.fault.OpenFault.TheVariants as fault

-- it tells these, and a text that means the filter
pub record HasParts (id : ℕ) (filter : List ClauseParts) (event_limit : ℕ) (birth mark : List ℕ) (head : HeadParts) : Type 0 where
  pub id_is : head.id ≡ id
  pub text : Reads head.filter filter
  pub limit_is : head.event_limit ≡ event_limit
  pub birth_is : head.birth ≡ birth
  pub mark_is : head.mark ≡ mark

-- a limit that a replica may have
pub record IsLimit (event_limit : ℕ) : Type 0 where
  pub low : 1 ≤ event_limit
  pub high : event_limit ≤ MAX_EVENTS

-- The first of these that holds: the limit is one that no replica has; the filter has a text that is too long to be kept. Memory aside.
abbrev pub IsOfSetup : (filter : List ClauseParts) → (event_limit : ℕ) → OpenFault → Type 0
IsOfSetup filter event_limit (fault.Replay BadLimit) = IsLimit event_limit → ⊥
IsOfSetup filter event_limit (fault.Replay (Refused place why)) = ⊥
IsOfSetup filter event_limit (fault.BadEntry place why) = IsLimit event_limit × (place ≡ 0) × (why ≡ TooLong) × ((text : List ℕ) × Reads text filter × (2 ^ 32 ≤ length text))
IsOfSetup filter event_limit fault.OutOfMemory = IsLimit event_limit
IsOfSetup filter event_limit _ = ⊥

-- a journal without entries has no room for the head
pub record HasNoPlace (head : HeadParts) : Type 0 where
  pub front : List ℕ
  pub batches : AreBatches [] front
  pub full : Fits (length front) (entry_bytes (entry.Head head) ∷ []) → ⊥

-- the file is refused as a journal, or has no entry and no room for this head; of memory and of the device nothing is said
abbrev pub IsOfFile : (file : List ℕ) → HeadParts → JournalFault → Type 0
IsOfFile file head TooLarge = Stands [] file × HasNoPlace head
IsOfFile file head why = IsReason why file

-- Why no replica is begun in this file: by what it was to be begun with; or else the file is refused, or it has entries.
abbrev pub IsBeginFault : (file : List ℕ) → (id : ℕ) → (filter : List ClauseParts) → (event_limit : ℕ) → (birth mark : List ℕ) → OpenFault → Type 0
IsBeginFault file id filter event_limit birth mark (fault.Journal why) = IsLimit event_limit × ((head : HeadParts) × HasParts id filter event_limit birth mark head × IsOfFile file head why)
IsBeginFault file id filter event_limit birth mark fault.NotEmpty = IsLimit event_limit × ((entries : List (List ℕ)) × (entries ≢ []) × Stands entries file)
IsBeginFault file id filter event_limit birth mark why = IsOfSetup filter event_limit why
