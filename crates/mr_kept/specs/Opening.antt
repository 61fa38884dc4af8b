-- what opening a journal makes of it, and what a crash leaves of that
use Rattle.std.specs.Prelude.{◌≡◌, ◌≢◌, ◌++◌, ◌∷◌, [], ℕ, Bool, List, length, map, Option, Some}
use Rattle.std.specs.List.{AllByRecursion}
use Rattle.mr_filter.specs.Grammar.{Reads}
use Rattle.mr_forms.specs.Known.{Form}
use Rattle.mr_journal.specs.Format.{Stands}
use Rattle.mr_entry.specs.Head.{HeadParts}
use Rattle.mr_entry.specs.Events.{events_of}
use Rattle.mr_entry.specs.Note.{NoteParts}
use Rattle.mr_entry.specs.Spelling.{entry_bytes}
use Rattle.mr_entry.specs.declared.entry.Entry.{Entry}
use Rattle.mr_entry.specs.declared.entry.Entry.TheVariants as entry
use Rattle.mr_replica.specs.State.{State}
use Rattle.mr_replica.specs.Replay.{Replays}
use Rattle.mr_replica.specs.declared.event.Event.{Event}
use Rattle.mr_kept.specs.declared.fault.OpenFault.{OpenFault}
use Rattle.mr_kept.specs.declared.fault.OpenFault.TheVariants as fault
use Rattle.mr_kept.specs.declared.journaled.Journaled.{Journaled}
use Rattle.mr_kept.specs.Closing.{IsCut, Takes, closers}
use Rattle.mr_kept.specs.Entries.{AreInOrder, AreSpelled, entries_of, issued_after, notes_of}
use Rattle.mr_kept.specs.Kept.{IsKept, Tells, head_of, replica_of}

-- The texts are a head and entries that belong where they stand, and a fresh replica of that head that takes the
-- events of the entries is this one. They tell so many events, which issued so many versions, and these notes.
pub record IsReplayed {K : Type 0} (form : Form K) (texts : List (List ℕ)) (head : HeadParts) (s : State K) (kept issued : ℕ) (notes : List NoteParts) : Type 0 where
  pub entries : List Entry
  pub spelled : AreSpelled (entry.Head head ∷ entries) texts
  pub order : AreInOrder entries
  pub filter : Reads head.filter s.filter
  pub replays : Replays form head.id s.filter head.event_limit (events_of entries) s
  pub log_is : s.log ≡ events_of entries
  pub kept_is : kept ≡ length (events_of entries)
  pub issued_is : issued ≡ issued_after 0 (events_of entries)
  pub notes_are : notes ≡ notes_of entries

-- The file had entries whose replay is a replica, and what was open in that is closed: the journal has the same entries, and
-- behind them those of the events that closed it. They tell these notes.
pub record Reopens {K D V : Type 0} (form : Form K) (seen : D → List ℕ) (may_leave : D → List ℕ → Type 0) (file : List ℕ) (are_closed : Bool) (notes : List NoteParts) (j : Journaled K D V) : Type 0 where
  pub entries : List Entry
  pub stood : Stands (map entry_bytes (entry.Head (head_of j) ∷ entries)) file
  pub order : AreInOrder entries
  pub replica : State K
  pub tells : Tells (head_of j) replica
  pub replays : Replays form replica.id replica.filter replica.event_limit (events_of entries) replica
  pub issued_is : replica.issued ≡ issued_after 0 (events_of entries)
  pub notes_are : notes ≡ notes_of entries
  pub closed : Takes (closers replica) are_closed replica (replica_of j)
  pub kept : IsKept seen may_leave ((entry.Head (head_of j) ∷ entries) ++ entries_of (issued_after 0 (events_of entries)) closed.more) j

-- ---- refusals

-- the journal was begun at this place and, where a birth is given, is the one of that birth
pub record IsOfPlace (head : HeadParts) (mark : List ℕ) (birth : Option (List ℕ)) : Type 0 where
  pub mark_is : head.mark ≡ mark
  pub birth_is : (given : List ℕ) → birth ≡ Some given → head.birth ≡ given

-- the fault tells that it was begun elsewhere, or is another one
abbrev pub IsOfOther : HeadParts → (mark : List ℕ) → (birth : Option (List ℕ)) → OpenFault → Type 0
IsOfOther head mark birth fault.Copied = head.mark ≢ mark
IsOfOther head mark birth fault.OtherBirth = (given : List ℕ) × (birth ≡ Some given) × (head.mark ≡ mark) × (head.birth ≢ given)
IsOfOther head mark birth _ = ⊥

-- ---- crashes

-- the file has these entries, and behind them those of events that close what was open, or none
pub record HasCut (entries : List (List ℕ)) (file : List ℕ) : Type 0 where
  pub issued : ℕ
  pub events : List Event
  pub cuts : AllByRecursion IsCut events
  pub stands : Stands (entries ++ map entry_bytes (entries_of issued events)) file

-- the second file has the entries of the first, and behind them such
abbrev pub GoesOn : (file other : List ℕ) → Type 0
GoesOn file other = (entries : List (List ℕ)) × Stands entries file × HasCut entries other

-- the first file had no entry, and the second has a head at most
abbrev pub Begins : (file other : List ℕ) → Type 0
Begins file other = (head : HeadParts) × Stands [] file × Stands (entry_bytes (entry.Head head) ∷ []) other
