-- what a crash leaves of the steps of a settling
use Rattle.std.specs.Prelude.{◌⊎◌, ◌++◌, ℕ, List, map}
use Rattle.mr_journal.specs.Format.{Stands}
use Rattle.mr_entry.specs.Spelling.{entry_bytes}
use Rattle.mr_entry.specs.declared.entry.Entry.{Entry}
use Rattle.mr_kept.specs.declared.journaled.Journaled.{Journaled}
use Rattle.mr_kept.specs.Kept.{entries_waiting}

module _ {K D V : Type 0} where
  -- nothing, or all that waited
  abbrev pub AddsWaiting : (old new : Journaled K D V) → List Entry → List ℕ → Type 0
  AddsWaiting old new entries file = Stands (map entry_bytes entries) file ⊎ Stands (map entry_bytes (entries ++ entries_waiting old)) file
