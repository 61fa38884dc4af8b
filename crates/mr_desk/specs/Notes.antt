-- notes of the host: bytes that a commit keeps with the events before it
use Rattle.std.specs.Prelude.{◌≡◌, ◌<◌, ◌^◌, ℕ, false, List, length, Result, Ok, Err}
use Rattle.mr_itemset.specs.Normal.{Normal}
use Rattle.mr_entry.specs.Note.{NoteParts}
use Rattle.mr_journal.specs.Journal.{has_failed}
use Rattle.mr_kept.specs.Answered.{IsUnnoted}
use Rattle.mr_kept.specs.Kept.{Noted, journal_of}
use Rattle.mr_kept.specs.declared.fault.KeptFault.TheVariants as kept
use Rattle.mr_hosted.specs.Hosted.{SameHost, journaled_of}
use Rattle.mr_hosted.specs.declared.hosted.Hosted.{Hosted}
use Rattle.mr_desk.specs.Kept.{Stays}
use Rattle.mr_desk.specs.declared.device.Device.{Device}
use Rattle.mr_desk.specs.declared.device.Device.TheVariants.{Plain, Kept, Failed}
use Rattle.mr_desk.specs.declared.fault.Fault.{Fault}
use Rattle.mr_desk.specs.declared.fault.Fault.TheVariants as fault
use Rattle.mr_desk.specs.declared.notes.TheConstants.{NOTE_KIND}

-- the note of these bytes
abbrev pub note_of : List ℕ → NoteParts
note_of bytes = record { kind = NOTE_KIND; bytes = bytes }

module _ {V : Type 0} where
  -- The note waits behind those that do, and all else is as it was.
  pub record Waits (bytes : List ℕ) (old new : Hosted Normal V) : Type 0 where
    pub sound : has_failed (journal_of (journaled_of old)) ≡ false
    pub short : length bytes < 2 ^ 32
    pub noted : Noted (note_of bytes) (journaled_of old) (journaled_of new)
    pub host : SameHost old new

  -- It waits then, or why the file can't keep it; then all stays.
  abbrev pub KeptTakesNote : List ℕ → Hosted Normal V → Result (Unit {0}) Fault → Hosted Normal V → Type 0
  KeptTakesNote bytes old (Ok done) new = Waits bytes old new
  KeptTakesNote bytes old (Err fault.Failed) new = IsUnnoted (journal_of (journaled_of old)) (note_of bytes) kept.Failed × Stays old new
  KeptTakesNote bytes old (Err fault.TooLarge) new = IsUnnoted (journal_of (journaled_of old)) (note_of bytes) kept.TooLarge × Stays old new
  KeptTakesNote bytes old (Err fault.OutOfMemory) new = Stays old new
  KeptTakesNote bytes old (Err f) new = ⊥

-- A kept device takes the note, and stays one that found the same notes. Another device refuses it.
abbrev pub TakesNote : List ℕ → Device → Result (Unit {0}) Fault → Device → Type 0
TakesNote bytes (Plain s) answer new = (answer ≡ Err fault.OtherDevice) × (new ≡ Plain s)
TakesNote bytes (Kept h notes) answer (Kept n same) = KeptTakesNote bytes h answer n × (same ≡ notes)
TakesNote bytes (Kept h notes) answer new = ⊥
TakesNote bytes Failed answer new = (answer ≡ Err fault.Failed) × (new ≡ Failed)
