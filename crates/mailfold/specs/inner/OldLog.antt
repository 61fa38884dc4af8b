-- what the first entry of a log tells
use Rattle.std.specs.Prelude.{◌≡◌, ℕ, List, []}
use Rattle.mr_entry.specs.declared.entry.Entry.{Entry}
use Rattle.mr_entry.specs.declared.entry.Entry.TheVariants as entry
use Rattle.mailfold.specs.declared.old_log.OldLog.{OldLog}
use Rattle.mailfold.specs.declared.old_log.OldLog.TheVariants as logs
use Rattle.mailfold.specs.OldLog.{AreOfHead}

-- what these entries tell of it
abbrev pub TellsFirst : OldLog → List (List ℕ) → Type 0
TellsFirst (logs.Of head) entries = AreOfHead head entries
TellsFirst logs.Empty entries = entries ≡ []
TellsFirst logs.Unread entries = Unit {0}

-- what entries tell of a log in which some replica has to have been begun
abbrev pub TellsSome : OldLog → List (List ℕ) → Type 0
TellsSome (logs.Of head) entries = AreOfHead head entries
TellsSome logs.Empty entries = ⊥
TellsSome logs.Unread entries = Unit {0}

-- what a log tells whose first entry is this
abbrev pub told_in : Entry → OldLog
told_in (entry.Head head) = logs.Of head
told_in _ = logs.Unread
