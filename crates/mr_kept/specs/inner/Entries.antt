-- the entries of events, as they are spelled one after the other
use Rattle.std.specs.Prelude.{◌≡◌, ◌+◌, ◌≤◌, ◌++◌, ◌^◌, ℕ, zero, suc, List, [], ◌∷◌, replicate}
use Rattle.std.specs.List.{AllByRecursion}
use Rattle.mr_replica.specs.declared.event.Event.{Event}
use Rattle.mr_replica.specs.declared.event.Event.TheVariants.{Next}
use Rattle.mr_entry.specs.Grammar.{IsEntry}
use Rattle.mr_entry.specs.declared.entry.Entry.{Entry}
use Rattle.mr_entry.specs.declared.entry.Entry.TheVariants as entry
use Rattle.mr_kept.specs.declared.fault.KeptFault.{KeptFault}
use Rattle.mr_kept.specs.declared.fault.KeptFault.TheVariants as kept
use Rattle.mr_kept.specs.Entries.{counted, issued_after, entries_of, AreSpelled}

-- the run of so many Nexts, where there are any
abbrev pub run_of : ℕ → ℕ → List Entry
run_of stream zero = []
run_of stream (suc n) = entry.Nexts stream (suc n) ∷ []

-- Of these events the byte strings tell all but the run of Nexts at their end, so many of this stream, which may still grow: whatever comes
-- later, its entries stand behind the byte strings.
pub record AreSoFar (issued : ℕ) (events : List Event) (texts : List (List ℕ)) (now stream nexts : ℕ) : Type 0 where
  pub list : List Entry
  pub spelled : AreSpelled list texts
  pub all : (later : List Event) → entries_of issued (events ++ later) ≡ list ++ entries_of now (replicate nexts (Next stream) ++ later)
  pub counted_is : now ≡ issued_after issued events

-- ---- why they are none

-- Behind so many issued versions, and so many Nexts of this stream at the end, the event is in no entry: another Next makes a run of 2^32,
-- or the entry of the event would be too long or tell a count of 2^32.
abbrev pub HasNoEntry : (issued stream nexts : ℕ) → Event → Type 0
HasNoEntry issued stream nexts (Next other) = (other ≡ stream) × (2 ^ 32 ≤ nexts + 1)
HasNoEntry issued stream nexts event = IsEntry (entry.Event (counted issued event) event) → ⊥

-- the fault of an event that has none; memory may be wanting
abbrev pub IsOfEvent : (issued stream nexts : ℕ) → Event → KeptFault → Type 0
IsOfEvent issued stream nexts event kept.TooLarge = HasNoEntry issued stream nexts event
IsOfEvent issued stream nexts event kept.OutOfMemory = Unit {0}
IsOfEvent issued stream nexts event kept.Failed = ⊥
IsOfEvent issued stream nexts event (kept.Refused _) = ⊥
IsOfEvent issued stream nexts event kept.Unsettled = ⊥

-- the fault of entries that can't be spelled: not all are in the grammar
abbrev pub IsOfEntries : List Entry → KeptFault → Type 0
IsOfEntries entries kept.TooLarge = AllByRecursion IsEntry entries → ⊥
IsOfEntries entries kept.OutOfMemory = Unit {0}
IsOfEntries entries kept.Failed = ⊥
IsOfEntries entries (kept.Refused _) = ⊥
IsOfEntries entries kept.Unsettled = ⊥
