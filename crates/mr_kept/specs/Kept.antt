-- what an open replica has, and what of it is kept
use Rattle.std.specs.Prelude.{◌≡◌, ◌++◌, ◌==◌, ◌&&◌, ◌∷◌, [], ℕ, Bool, true, false, nat_le, IsTrue, length, take, drop, map, List, Option, Some, None, Result, Ok, Err}
use Rattle.std.specs.List.{AllByRecursion}
use Rattle.mr_forms.specs.Known.{Form}
use Rattle.mr_journal.specs.Journal.{Keeps}
use Rattle.mr_journal.specs.declared.journal.Journal.{Journal}
use Rattle.mr_filter.specs.Grammar.{Reads}
use Rattle.mr_entry.specs.Head.{HeadParts}
use Rattle.mr_entry.specs.Events.{events_of}
use Rattle.mr_entry.specs.Grammar.{IsEntry}
use Rattle.mr_entry.specs.Note.{NoteParts}
use Rattle.mr_entry.specs.Spelling.{entry_bytes}
use Rattle.mr_entry.specs.declared.entry.Entry.{Entry}
use Rattle.mr_entry.specs.declared.entry.Entry.TheVariants as entry
use Rattle.mr_replica.specs.State.{State}
use Rattle.mr_replica.specs.declared.event.Event.{Event}
use Rattle.mr_replica.specs.declared.event.Reply.{Reply}
use Rattle.mr_kept.specs.declared.fault.KeptFault.{KeptFault}
use Rattle.mr_kept.specs.declared.journaled.Journaled.{Journaled}
use Rattle.mr_kept.specs.Answered.{Answered, is_held_back}
use Rattle.mr_kept.specs.Entries.{AllBelong, batch_entries, issued_after}

-- the head tells what replica it is of: its id, its filter's text and its event limit
pub record Tells {K : Type 0} (head : HeadParts) (s : State K) : Type 0 where
  pub id : s.id ≡ head.id
  pub filter : Reads head.filter s.filter
  pub event_limit : s.event_limit ≡ head.event_limit

-- the entries are this head, and behind it such as belong where they stand
pub record AreHeaded (head : HeadParts) (entries : List Entry) : Type 0 where
  pub behind : List Entry
  pub first : entries ≡ entry.Head head ∷ behind
  pub belong : AllBelong 0 behind

module _ {K D V : Type 0} where
  abbrev pub replica_of : Journaled K D V → State K
  replica_of j = j.replica

  abbrev pub journal_of : Journaled K D V → Journal D
  journal_of j = j.journal

  abbrev pub head_of : Journaled K D V → HeadParts
  head_of j = j.head

  -- how many events of the log the journal has, and how many versions these issued
  abbrev pub kept_of : Journaled K D V → ℕ
  kept_of j = j.kept

  abbrev pub issued_of : Journaled K D V → ℕ
  issued_of j = j.issued

  -- what is held back
  abbrev pub leaving : Journaled K D V → List Reply
  leaving j = j.leaving.items

  -- the events that wait for a commit
  abbrev pub waiting : Journaled K D V → List Event
  waiting j = drop (kept_of j) (replica_of j).log

  -- the notes that wait for one
  abbrev pub notes_waiting : Journaled K D V → List NoteParts
  notes_waiting j = j.notes.items

  -- the entries of what waits: those of the events, and behind them those of the notes
  abbrev pub entries_waiting : Journaled K D V → List Entry
  entries_waiting j = batch_entries (issued_of j) (waiting j) (notes_waiting j)

  -- neither an event waits nor a note
  abbrev pub nothing_waits : Journaled K D V → Bool
  nothing_waits j = nat_le (length (replica_of j).log) (kept_of j) && (length (notes_waiting j) == 0)

  -- The journal has these entries: its head, and behind it entries that belong where they stand and tell the events that it is said to
  -- have, and no other.
  pub record IsKept (seen : D → List ℕ) (may_leave : D → List ℕ → Type 0) (entries : List Entry) (j : Journaled K D V) : Type 0 where
    pub in_grammar : AllByRecursion IsEntry entries
    pub order : AreHeaded (head_of j) entries
    pub device : Keeps seen may_leave (map entry_bytes entries) (journal_of j)
    pub within : IsTrue (nat_le (kept_of j) (length (replica_of j).log))
    pub events : events_of entries ≡ take (kept_of j) (replica_of j).log
    pub counted : issued_of j ≡ issued_after 0 (events_of entries)

  -- the journal is as it was, and so are what is said of it and the notes that wait
  pub record SameJournal (old new : Journaled K D V) : Type 0 where
    pub journal : journal_of new ≡ journal_of old
    pub head : head_of new ≡ head_of old
    pub kept : kept_of new ≡ kept_of old
    pub issued : issued_of new ≡ issued_of old
    pub notes : notes_waiting new ≡ notes_waiting old

  -- the note waits behind those that do, and all else is as it was
  pub record Noted (note : NoteParts) (old new : Journaled K D V) : Type 0 where
    pub notes_are : notes_waiting new ≡ notes_waiting old ++ note ∷ []
    pub replica : replica_of new ≡ replica_of old
    pub journal : journal_of new ≡ journal_of old
    pub head : head_of new ≡ head_of old
    pub kept : kept_of new ≡ kept_of old
    pub issued : issued_of new ≡ issued_of old
    pub leaving_is : leaving new ≡ leaving old

  -- what waits and what is held back is as it was
  pub record StaysBack (old new : Journaled K D V) : Type 0 where
    pub kept : kept_of new ≡ kept_of old
    pub issued : issued_of new ≡ issued_of old
    pub leaving_is : leaving new ≡ leaving old
    pub notes : notes_waiting new ≡ notes_waiting old

  -- The event is answered, and the reply is held back for the next commit. Where it isn't, nothing is.
  abbrev pub Later : Form K → Journaled K D V → Event → Result (Unit {0}) KeptFault → Journaled K D V → Type 0
  Later form old event (Ok _) new = (reply : Reply) × Answered form (journal_of old) (replica_of old) event (Ok reply) (replica_of new) × (leaving new ≡ leaving old ++ reply ∷ [])
  Later form old event (Err e) new = Answered form (journal_of old) (replica_of old) event (Err e) (replica_of new) × (leaving new ≡ leaving old)

  -- The event is answered at once. Nothing is held back.
  abbrev pub AtOnce : Form K → Journaled K D V → Event → Result Reply KeptFault → Journaled K D V → Type 0
  AtOnce form old event answer new = Answered form (journal_of old) (replica_of old) event answer (replica_of new) × (leaving new ≡ leaving old)

  -- The event is answered: later, and nothing is told, where the reply may leave; else at once.
  abbrev pub Asks : Form K → Journaled K D V → Event → Result (Option Reply) KeptFault → Journaled K D V → Type 0
  Asks form old event (Ok None) new = (is_held_back event ≡ true) × Later form old event (Ok tt) new
  Asks form old event (Ok (Some reply)) new = (is_held_back event ≡ false) × AtOnce form old event (Ok reply) new
  Asks form old event (Err e) new = AtOnce form old event (Err e) new
