-- what a folder's journal has of a settling
use Rattle.std.specs.Prelude.{◌≡◌, ◌≤◌, ◌*◌, ◌⊎◌, ◌++◌, ◌∷◌, [], ℕ, true, IsTrue, List, length, map}
use Rattle.std.specs.Global.{Vec}
use Rattle.mr_journal.specs.Device.{LeavesOnly}
use Rattle.mr_journal.specs.Format.{Stands}
use Rattle.mr_journal.specs.Journal.{device_of}
use Rattle.mr_journal.specs.declared.device.Device.{Ghosts as DeviceOf}
use Rattle.mr_entry.specs.Events.{events_of}
use Rattle.mr_entry.specs.Note.{NoteParts}
use Rattle.mr_entry.specs.Spelling.{entry_bytes}
use Rattle.mr_entry.specs.declared.entry.Entry.{Entry}
use Rattle.mr_version.specs.Name.{Name}
use Rattle.mr_itemset.specs.Normal.{Normal}
use Rattle.mr_replica.specs.State.{State}
use Rattle.mr_kept.specs.declared.journaled.Journaled.{Journaled}
use Rattle.mr_kept.specs.Entries.{notes_of}
use Rattle.mr_kept.specs.Kept.{IsKept, journal_of, nothing_waits, notes_waiting, replica_of}
use Rattle.mr_compare.specs.declared.compare.MailAct.{MailAct}
use Rattle.mr_compare.specs.declared.joining.ItemHeads.{ItemHeads}
use Rattle.mr_fold.specs.declared.settling.TheConstants.{MAILS_AT_ONCE}
use Rattle.mr_fold.specs.Shown.{shown_note}
use Rattle.mr_fold.specs.Telling.{Grows, TellsAll}

-- one note for each of these numbers: that so many entries are shown, but for these items
abbrev pub shown_notes : List ℕ → List Name → List NoteParts
shown_notes numbers lacking = map (λ (entries : ℕ). shown_note entries lacking) numbers

module _ {K D V : Type 0} where
  -- Behind these entries the file has those of all events of the log that they lack, and of the notes that waited, and last of this note.
  pub record HasAll (file : List ℕ) (entries : List Entry) (old new : Journaled K D V) (note : NoteParts) : Type 0 where
    pub more : List Entry
    pub stands : Stands (map entry_bytes (entries ++ more)) file
    pub events : events_of (entries ++ more) ≡ (replica_of new).log
    pub notes : notes_of more ≡ notes_waiting old ++ note ∷ []

  -- The journal has these entries, and behind them others, whose notes are those that waited, then some of how much of the feed was shown,
  -- and last that all of it is.
  pub record IsNoted (seen : D → List ℕ) (may_leave : D → List ℕ → Type 0) (entries : List Entry) (waiting : List NoteParts) (j : Journaled K D V) (lacking : List Name) : Type 0 where
    pub more : List Entry
    pub kept : IsKept seen may_leave (entries ++ more) j
    pub parts : List ℕ
    pub notes : notes_of more ≡ waiting ++ shown_notes (parts ++ length (replica_of j).feed ∷ []) lacking

-- From one state of the files to another none is moved: what is on the disk stays there, and each mail that was shown still is.
pub record Stay {F : Type 0} (are_synced : F → Type 0) (is_shown : F → MailAct → Type 0) (old new : F) : Type 0 where
  pub synced : are_synced old → are_synced new
  pub shown : (mail : MailAct) → is_shown old mail → is_shown new mail

module _ {D V : Type 0} where
  -- What is told of these mails is kept, and what waited; and no note more.
  pub record IsToldFirst (seen : D → List ℕ) (may_leave : D → List ℕ → Type 0) (entries : List Entry) (held : List (List ℕ × Vec ItemHeads)) (mails : List MailAct) (old new : Journaled Normal D V) : Type 0 where
    pub told : Grows (TellsAll held mails) (replica_of old) (replica_of new)
    pub all_kept : nothing_waits new ≡ true
    pub more : List Entry
    pub kept : IsKept seen may_leave (entries ++ more) new
    pub notes : notes_of more ≡ notes_waiting old

  -- These mails are settled: what is told of them is kept, with the note that the whole feed is shown, but for the items that lack their file.
  pub record Settles {F : Type 0} (device : DeviceOf D) (are_synced : F → Type 0) (held : List (List ℕ × Vec ItemHeads)) (mails : List MailAct) (lacking : List Name) (old new : Journaled Normal D V) (files : F) : Type 0 where
    -- nothing waits for a commit any more
    pub all_kept : nothing_waits new ≡ true
    -- what was shown is on the disk
    pub all_synced : are_synced files
    -- the log grew by what is told of the mails, one after the other, and by nothing else
    pub told : Grows (TellsAll held mails) (replica_of old) (replica_of new)
    -- behind what it had the journal has the notes that waited, and last the one that the whole feed is shown, with all that is told in it
    pub noted : IsTrue device.is_told → (entries : List Entry) → IsKept device.seen device.may_leave entries old → IsNoted device.seen device.may_leave entries (notes_waiting old) new lacking

module _ {D V F : Type 0} (device : DeviceOf D) (are_synced : F → Type 0) where
  -- Unless what was shown is on the disk, what is told of these mails is kept, and no note of it is.
  abbrev pub TellsFirst : (held : List (List ℕ × Vec ItemHeads)) (mails : List MailAct) (old new : Journaled Normal D V) (before now : F) → Type 0
  TellsFirst held mails old new before now = IsTrue device.is_told → (entries : List Entry) → IsKept device.seen device.may_leave entries old
      → (are_synced before → are_synced now) ⊎ IsToldFirst device.seen device.may_leave entries held mails old new

-- Behind these entries the file has those of all events of the log that they lack, and of the notes that waited, then of some of how much of the
-- feed was shown, and last of the note that all of it is, but for the items that lack their file.
pub record HasShown {K : Type 0} (file : List ℕ) (entries : List Entry) (waiting : List NoteParts) (s : State K) (lacking : List Name) : Type 0 where
  pub more : List Entry
  pub stands : Stands (map entry_bytes (entries ++ more)) file
  pub events : events_of (entries ++ more) ≡ s.log
  pub parts : List ℕ
  pub notes : notes_of more ≡ waiting ++ shown_notes (parts ++ length s.feed ∷ []) lacking

-- Behind these entries the file has those of what waited, and of what is told of these mails; and no note more.
pub record HasTold (file : List ℕ) (entries : List Entry) (waiting : List NoteParts) (held : List (List ℕ × Vec ItemHeads)) (mails : List MailAct) (old : State Normal) : Type 0 where
  pub then : State Normal
  pub told : Grows (TellsAll held mails) old then
  pub more : List Entry
  pub stands : Stands (map entry_bytes (entries ++ more)) file
  pub events : events_of (entries ++ more) ≡ then.log
  pub notes : notes_of more ≡ waiting

-- The file has what it had when the moved mails had been told and shown, and some first ones of the others; and nothing of those behind them.
pub record HasBegun (file : List ℕ) (entries : List Entry) (waiting : List NoteParts) (held : List (List ℕ × Vec ItemHeads)) (moved others : List MailAct) (lacking : List Name) (old : State Normal) : Type 0 where
  pub first : List MailAct
  pub rest : List MailAct
  pub are : others ≡ first ++ rest
  pub then : State Normal
  pub told : Grows (TellsAll held (moved ++ first)) old then
  pub has : HasShown file entries waiting then lacking

-- so many mails are some parts, one at least, each of them whole
abbrev pub AreWholeParts : ℕ → Type 0
AreWholeParts mails = (parts : ℕ) × (1 ≤ parts) × (mails ≡ parts * MAILS_AT_ONCE)

-- The file has what it had when some first parts of these mails, each of them whole, had been told and shown, and nothing of the others.
pub record HasFirst (file : List ℕ) (entries : List Entry) (waiting : List NoteParts) (held : List (List ℕ × Vec ItemHeads)) (mails : List MailAct) (lacking : List Name) (old : State Normal) : Type 0 where
  pub first : List MailAct
  pub rest : List MailAct
  pub are : mails ≡ first ++ rest
  pub whole : AreWholeParts (length first)
  pub then : State Normal
  pub told : Grows (TellsAll held first) old then
  pub has : HasShown file entries waiting then lacking

-- ---- what a crash leaves: what the file adds to the entries that the journal had

module _ {K D V : Type 0} (device : DeviceOf D) where
  -- Of a device of which its clauses tell, and whatever entries the journal had: a crash at any moment from the old state to the new one leaves a file that
  -- adds this to them.
  abbrev pub Leaves : (old new : Journaled K D V) → ((old new : Journaled K D V) → List Entry → List ℕ → Type 0) → Type 0
  Leaves old new Adds = IsTrue device.is_told → (entries : List Entry) → IsKept device.seen device.may_leave entries old
      → LeavesOnly device.moment device.left_since (device_of (journal_of old)) (device_of (journal_of new)) (Adds old new entries)

module _ {K D V : Type 0} (lacking : List Name) where
  -- nothing, or all at once: what waited, what is told, and the note that it is shown
  abbrev pub AddsAtOnce : (old new : Journaled K D V) → List Entry → List ℕ → Type 0
  AddsAtOnce old new entries file = Stands (map entry_bytes entries) file ⊎ HasAll file entries old new (shown_note (length (replica_of new).feed) lacking)

module _ {D V : Type 0} (held : List (List ℕ × Vec ItemHeads)) (lacking : List Name) where
  -- Nothing; or what is told of the moved mails, and no note of it; or that and the note that they are shown, and so of some first ones of the others; or
  -- all that the log has then, and that note.
  abbrev pub AddsInTurn : (moved others : List MailAct) (old new : Journaled Normal D V) → List Entry → List ℕ → Type 0
  AddsInTurn moved others old new entries file =
      Stands (map entry_bytes entries) file
      ⊎ (HasTold file entries (notes_waiting old) held moved (replica_of old)
      ⊎ (HasBegun file entries (notes_waiting old) held moved others lacking (replica_of old)
      ⊎ HasShown file entries (notes_waiting old) (replica_of new) lacking))

  -- Nothing; or what is told of some first ones of these mails, so many whole parts; or all that the log has then; each with the note that it is shown.
  abbrev pub AddsInParts : (mails : List MailAct) (old new : Journaled Normal D V) → List Entry → List ℕ → Type 0
  AddsInParts mails old new entries file =
      Stands (map entry_bytes entries) file
      ⊎ (HasFirst file entries (notes_waiting old) held mails lacking (replica_of old)
      ⊎ HasShown file entries (notes_waiting old) (replica_of new) lacking)
