-- a replica that was read from a journal, and one of which all was closed
use Rattle.std.specs.Prelude.{◌++◌, ◌∷◌, ℕ, Bool, List}
use Rattle.mr_forms.specs.Known.{Form}
use Rattle.mr_entry.specs.Note.{NoteParts}
use Rattle.mr_entry.specs.declared.entry.Entry.{Entry}
use Rattle.mr_entry.specs.declared.entry.Entry.TheVariants as entry
use Rattle.mr_kept.specs.declared.journaled.Journaled.{Journaled}
use Rattle.mr_kept.specs.Closing.{Takes, closers}
use Rattle.mr_kept.specs.Entries.{entries_of}
use Rattle.mr_kept.specs.Kept.{IsKept, head_of, issued_of, kept_of, replica_of}
use Rattle.mr_kept.specs.Opening.{IsReplayed}

-- The replica was replayed from these texts, which tell these notes, and its journal keeps the entries that they are.
pub record IsRead {K D V : Type 0} (form : Form K) (seen : D → List ℕ) (may_leave : D → List ℕ → Type 0) (texts : List (List ℕ)) (notes : List NoteParts) (j : Journaled K D V) : Type 0 where
  pub replayed : IsReplayed form texts (head_of j) (replica_of j) (kept_of j) (issued_of j) notes
  pub kept : IsKept seen may_leave (entry.Head (head_of j) ∷ replayed.entries) j

-- The replica took the events that close what was open, and the journal has these entries and behind them those of the events.
pub record IsClosedIn {K D V : Type 0} (seen : D → List ℕ) (may_leave : D → List ℕ → Type 0) (entries : List Entry) (are_closed : Bool) (old new : Journaled K D V) : Type 0 where
  pub closed : Takes (closers (replica_of old)) are_closed (replica_of old) (replica_of new)
  pub kept : IsKept seen may_leave (entries ++ entries_of (issued_of old) closed.more) new
