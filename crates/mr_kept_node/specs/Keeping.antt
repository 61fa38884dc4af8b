-- what a commit of a letter does to the journal
use Rattle.std.specs.Prelude.{◌⊎◌, ◌++◌, [], ◌∷◌, ℕ, Bool, IsTrue, map, List}
use Rattle.mr_forms.specs.Known.{Form}
use Rattle.mr_journal.specs.Device.{LeavesOnly}
use Rattle.mr_journal.specs.Format.{Stands}
use Rattle.mr_journal.specs.Journal.{device_of}
use Rattle.mr_journal.specs.declared.device.Device.{Ghosts as DeviceOf}
use Rattle.mr_entry.specs.Spelling.{entry_bytes}
use Rattle.mr_entry.specs.declared.entry.Entry.{Entry}
use Rattle.mr_replica.specs.declared.event.Event.{Event}
use Rattle.mr_kept.specs.Entries.{batch_entries, notes_of}
use Rattle.mr_kept.specs.Kept.{IsKept, head_of, issued_of, journal_of, notes_waiting, replica_of, waiting}
use Rattle.mr_kept.specs.Whole.{HasLog, IsOf}
use Rattle.mr_kept.specs.declared.journaled.Journaled.{Journaled}

module _ {K D V : Type 0} where
  -- the entries of what waits, with the letter's event behind the events
  abbrev pub entries_with : Journaled K D V → Event → List Entry
  entries_with j letter = batch_entries (issued_of j) (waiting j ++ letter ∷ []) (notes_waiting j)

  -- the device of its journal
  abbrev pub device_under : Journaled K D V → D
  device_under j = device_of (journal_of j)

module _ {K D V : Type 0} (form : Form K) (device : DeviceOf D) where
  -- what a crash at any moment between leaves: the entries from before, or those and all that waited with the letter; and so a journal that has the log of a replica, which opens again, and the notes from before, or those and all that waited
  pub record LeavesLog (entries : List Entry) (old : Journaled K D V) (letter : Event) (new : Journaled K D V) : Type 0 where
    pub any_moment : LeavesOnly device.moment device.left_since (device_under old) (device_under new) (λ c. Stands (map entry_bytes entries) c ⊎ Stands (map entry_bytes (entries ++ entries_with old letter)) c)
    pub left : IsOf (head_of old) (replica_of old) → LeavesOnly device.moment device.left_since (device_under old) (device_under new)
        (λ c. HasLog form c (head_of old) (notes_of entries) ⊎ HasLog form c (head_of old) (notes_of entries ++ notes_waiting old))

  -- A commit of the letter was begun, and this is what crashes leave of it.
  abbrev pub Commits : Journaled K D V → Event → Journaled K D V → Type 0
  Commits old letter new = IsTrue device.is_told → (entries : List Entry) → IsKept device.seen device.may_leave entries old → LeavesLog entries old letter new

  -- It was made: the journal has the entries from before, and those of all that waited with the letter.
  abbrev pub Keeps : Journaled K D V → Event → Journaled K D V → Type 0
  Keeps old letter new = IsTrue device.is_told → (entries : List Entry) → IsKept device.seen device.may_leave entries old → IsKept device.seen device.may_leave (entries ++ entries_with old letter) new
