-- a journal that a replica left, and what comes of opening it
use Rattle.std.specs.Prelude.{◌≡◌, ◌≤◌, ◌⊎◌, ◌∷◌, ℕ, Bool, List, map}
use Rattle.std.specs.List.{AllByRecursion}
use Rattle.mr_filter.specs.Filter.{IsFilter}
use Rattle.mr_forms.specs.Known.{Form}
use Rattle.mr_journal.specs.Format.{Stands}
use Rattle.mr_journal.specs.declared.fault.JournalFault.TheVariants as journal
use Rattle.mr_entry.specs.Events.{events_of}
use Rattle.mr_entry.specs.Grammar.{IsEntry}
use Rattle.mr_entry.specs.Head.{HeadParts}
use Rattle.mr_entry.specs.Note.{NoteParts}
use Rattle.mr_entry.specs.Spelling.{entry_bytes}
use Rattle.mr_entry.specs.declared.entry.Entry.{Entry}
use Rattle.mr_entry.specs.declared.entry.Entry.TheVariants as entry
use Rattle.mr_replica.specs.Alike.{AreAlike}
use Rattle.mr_replica.specs.Replay.{IsItsLog}
use Rattle.mr_replica.specs.State.{State}
use Rattle.mr_replica.specs.declared.refusal.Refusal.TheVariants as refusal
use Rattle.mr_replica.specs.declared.replica.TheConstants.{MAX_EVENTS}
use Rattle.mr_replica.specs.declared.replica.replay.ReplayFault.TheVariants as replay
use Rattle.mr_kept.specs.declared.fault.OpenFault.{OpenFault}
use Rattle.mr_kept.specs.declared.fault.OpenFault.TheVariants as fault
use Rattle.mr_kept.specs.Closing.{Takes, closers}
use Rattle.mr_kept.specs.Entries.{AllBelong, notes_of}
use Rattle.mr_kept.specs.Kept.{Tells}

-- the fault is one of memory or of the device, or of keeping what closes what was open
abbrev pub IsOfMachine : OpenFault → Type 0
IsOfMachine fault.OutOfMemory = Unit {0}
IsOfMachine (fault.Journal why) = (why ≡ journal.OutOfMemory) ⊎ (why ≡ journal.Failed)
IsOfMachine (fault.Kept why) = Unit {0}
IsOfMachine (fault.Replay replay.BadLimit) = ⊥
IsOfMachine (fault.Replay (replay.Refused place why)) = why ≡ refusal.OutOfMemory
IsOfMachine _ = ⊥

-- the head is this replica's, which has a filter and a limit that a replica may have
pub record IsOf {K : Type 0} (head : HeadParts) (s : State K) : Type 0 where
  pub tells : Tells head s
  pub is_filter : IsFilter s.filter
  pub limit_from : 1 ≤ head.event_limit
  pub limit_to : head.event_limit ≤ MAX_EVENTS

module _ {K : Type 0} (form : Form K) where
  -- The file has the head of this replica, and behind it entries that belong where they stand and tell the events of its log, and
  -- these notes.
  pub record HasLogOf (file : List ℕ) (head : HeadParts) (s : State K) (notes : List NoteParts) : Type 0 where
    pub entries : List Entry
    pub in_grammar : AllByRecursion IsEntry (entry.Head head ∷ entries)
    pub stands : Stands (map entry_bytes (entry.Head head ∷ entries)) file
    pub belong : AllBelong 0 entries
    pub head_is : IsOf head s
    pub log_is : s.log ≡ events_of entries
    pub notes_are : notes_of entries ≡ notes
    pub is_its_log : IsItsLog form s

  -- such a replica there is
  abbrev pub HasLog : (file : List ℕ) → HeadParts → List NoteParts → Type 0
  HasLog file head notes = (s : State K) × HasLogOf file head s notes

  -- a replica that is alike took the events that close what was open, all of them or as many as its log takes, and is this one
  pub record ComesBack (s : State K) (are_closed : Bool) (new : State K) : Type 0 where
    pub replica : State K
    pub alike : AreAlike form s replica
    pub closed : Takes (closers replica) are_closed replica new
