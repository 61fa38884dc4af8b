-- what a commit does: when what waits can be kept, why it isn't, and what a crash leaves
use Rattle.std.specs.Prelude.{◌≡◌, ◌≢◌, ◌⊎◌, ◌++◌, [], true, false, IsTrue, List, map}
use Rattle.std.specs.List.{AllByRecursion}
use Rattle.mr_forms.specs.Known.{Form}
use Rattle.mr_journal.specs.Device.{LeavesOnly}
use Rattle.mr_journal.specs.Format.{Fits, Stands}
use Rattle.mr_journal.specs.Journal.{device_of, end_of, has_failed}
use Rattle.mr_journal.specs.declared.device.Device.{Ghosts as DeviceOf}
use Rattle.mr_entry.specs.Grammar.{IsEntry}
use Rattle.mr_entry.specs.Spelling.{entry_bytes}
use Rattle.mr_entry.specs.declared.entry.Entry.{Entry}
use Rattle.mr_replica.specs.declared.event.Reply.{Reply}
use Rattle.mr_kept.specs.declared.fault.KeptFault.{KeptFault}
use Rattle.mr_kept.specs.declared.fault.KeptFault.TheVariants.{OutOfMemory, Refused, Failed, TooLarge, Unsettled}
use Rattle.mr_kept.specs.declared.journaled.Journaled.{Journaled}
use Rattle.mr_kept.specs.Entries.{notes_of}
use Rattle.mr_kept.specs.Kept.{IsKept, StaysBack, entries_waiting, head_of, journal_of, leaving, nothing_waits, notes_waiting, replica_of, waiting}
use Rattle.mr_kept.specs.Whole.{HasLog, IsOf}

module _ {K D V : Type 0} where
  -- the journal has room for what waits: its entries are in the grammar, and fit behind those that it has
  pub record HasRoom (j : Journaled K D V) : Type 0 where
    pub in_grammar : AllByRecursion IsEntry (entries_waiting j)
    pub fits : Fits (end_of (journal_of j)) (map entry_bytes (entries_waiting j))

  -- what waits can be kept: the device has not failed, and there is room for it, or nothing waits
  pub record CanCommit (j : Journaled K D V) : Type 0 where
    pub sound : has_failed (journal_of j) ≡ false
    pub room : entries_waiting j ≢ [] → HasRoom j

  -- why it isn't; of the device another clause says when it fails
  abbrev pub IsUncommitted : Journaled K D V → KeptFault → Type 0
  IsUncommitted j Failed = Unit {0}
  IsUncommitted j TooLarge = (has_failed (journal_of j) ≡ false) × (HasRoom j → ⊥)
  IsUncommitted j OutOfMemory = has_failed (journal_of j) ≡ false
  IsUncommitted j (Refused _) = ⊥
  IsUncommitted j Unsettled = ⊥

module _ {K D V : Type 0} (device : DeviceOf D) where
  -- All that waited is kept, and what was held back is handed out.
  pub record Committed (old : Journaled K D V) (out : List Reply) (new : Journaled K D V) : Type 0 where
    pub can : CanCommit old
    pub handed_out : out ≡ leaving old
    pub none_waits : (nothing_waits new ≡ true) × (waiting new ≡ []) × (notes_waiting new ≡ []) × (leaving new ≡ [])
    -- the journal has the entries from before and those of all that waited, and a crash leaves that
    pub kept : IsTrue device.is_told → (entries : List Entry) → IsKept device.seen device.may_leave entries old → IsKept device.seen device.may_leave (entries ++ entries_waiting old) new

  -- Nothing is handed out. Unless the device failed, all is as it was.
  pub record Uncommitted (old : Journaled K D V) (fault : KeptFault) (new : Journaled K D V) : Type 0 where
    pub why : IsUncommitted old fault
    pub back : StaysBack old new
    pub unchanged : fault ≢ Failed → new ≡ old
    pub cause : IsTrue device.is_told → fault ≡ Failed → IsTrue (has_failed (journal_of old)) ⊎ IsTrue (device.has_failed (device_of (journal_of new)))

module _ {K D V : Type 0} (form : Form K) (device : DeviceOf D) where
  -- What a crash at any moment of it leaves.
  pub record LeavesOneOfTwo (old new : Journaled K D V) : Type 0 where
    -- the entries from before, or those and all that waited
    pub any_moment : IsTrue device.is_told → (entries : List Entry) → IsKept device.seen device.may_leave entries old
        → LeavesOnly device.moment device.left_since (device_of (journal_of old)) (device_of (journal_of new)) (λ c. Stands (map entry_bytes entries) c ⊎ Stands (map entry_bytes (entries ++ entries_waiting old)) c)
    -- so a journal that has the log of a replica, which opens again, and the notes from before, or those and all that waited
    pub left : IsTrue device.is_told → (entries : List Entry) → IsKept device.seen device.may_leave entries old → IsOf (head_of old) (replica_of old)
        → LeavesOnly device.moment device.left_since (device_of (journal_of old)) (device_of (journal_of new)) (λ c. HasLog form c (head_of old) (notes_of entries) ⊎ HasLog form c (head_of old) (notes_of entries ++ notes_waiting old))
