-- worked rows: what the definitions give for small values
use Rattle.std.specs.Prelude.{◌≡◌, ◌≢◌, ℕ, List, [], ◌∷◌, ◌++◌, true, false, Some, None, Ok, refl}
use Rattle.std.specs.declared.io.Error.{Error}
use Rattle.std.proofs.Common.{inl, arith, lit<, sym, ◌∙◌}
use Rattle.mr_mail.specs.Mail.{Mail}
use Rattle.mr_forms.specs.Known.{Form}
use Rattle.mr_journal.specs.Format.{Stands}
use Rattle.mr_journal.specs.Journal.{has_failed}
use Rattle.mr_journal.specs.declared.journal.Journal.{Journal}
use Rattle.mr_replica.specs.declared.replica.replay.ReplayFault.TheVariants.{BadLimit}
use Rattle.mr_replica.specs.declared.event.Event.{Event}
use Rattle.mr_replica.specs.declared.event.Event.TheVariants.{Create, Edit, Pull, Next, CutIn, CutOut, Retire}
use Rattle.mr_replica.specs.declared.event.Reply.{Reply}
use Rattle.mr_entry.specs.Grammar.{Spells}
use Rattle.mr_entry.specs.Head.{HeadParts}
use Rattle.mr_entry.specs.Note.{NoteParts}
use Rattle.mr_entry.specs.Spelling.{entry_bytes}
use Rattle.mr_entry.specs.declared.entry.Entry.{Entry}
use Rattle.mr_entry.specs.declared.entry.Entry.TheVariants as entry
use Rattle.mr_entry.specs.declared.fault.EntryFault.TheVariants.{Truncated}
use Rattle.mr_kept.specs.declared.fault.OpenFault.TheVariants as fault
use Rattle.mr_kept.specs.declared.fault.KeptFault.TheVariants as kept
use Rattle.mr_kept.specs.declared.fault.ExplainedFault.TheVariants.{Kept, Device}
use Rattle.mr_kept.specs.declared.journaled.Journaled.{Journaled}
use Rattle.mr_kept.specs.Answered.{MayKeep, is_held_back}
use Rattle.mr_kept.specs.Beginning.{IsBeginFault}
use Rattle.mr_kept.specs.Closing.{IsCut}
use Rattle.mr_kept.specs.Commit.{CanCommit}
use Rattle.mr_kept.specs.Entries.{AllBelong, Belongs, batch_entries, entries_of, issued_after, notes_of}
use Rattle.mr_kept.specs.inner.Entries.{HasNoEntry}
use Rattle.mr_kept.specs.Kept.{Asks, entries_waiting, journal_of}
use Rattle.mr_kept.specs.Explained.{explained_kept, explained_open}
use Rattle.mr_kept.specs.Peer.{IsAbove}
use Rattle.mr_kept.specs.Refusing.{IsOutOfOrder, IsUnread, StopsAt}
use Rattle.mr_kept.specs.Telling.{WantsMore, is_end, size_of}
use Rattle.mr_wire.specs.Frames.{Sent}
use Rattle.mr_wire.specs.declared.frame.Header.{Header}
use Rattle.mr_wire.specs.declared.frame.Body.TheVariants.{End}

-- a Create and an Edit issue a version each, a Pull none
pub issued_row : (message : Mail) → issued_after 0 (Create message ∷ Pull ∷ Edit [] message ∷ []) ≡ 2
issued_row message = refl

-- each entry has the count that its event leaves
pub entries_row : (message : Mail) → entries_of 4 (Pull ∷ Create message ∷ CutIn 3 ∷ []) ≡ entry.Event 4 Pull ∷ entry.Event 5 (Create message) ∷ entry.Event 5 (CutIn 3) ∷ []
entries_row message = refl

-- the Nexts of one stream that stand in a row are one entry; those of another stream, and those behind another event, are another
pub runs_row : entries_of 4 (Next 2 ∷ Next 2 ∷ Next 3 ∷ Pull ∷ Next 3 ∷ []) ≡ entry.Nexts 2 2 ∷ entry.Nexts 3 1 ∷ entry.Event 4 Pull ∷ entry.Nexts 3 1 ∷ []
runs_row = refl

-- the notes stand behind the events, in their order
pub batch_row : (n m : NoteParts) → batch_entries 4 (Next 2 ∷ Next 2 ∷ []) (n ∷ m ∷ []) ≡ entry.Nexts 2 2 ∷ entry.Note n ∷ entry.Note m ∷ []
batch_row n m = refl

-- the notes among entries
pub notes_row : (n m : NoteParts) → notes_of (entry.Note n ∷ entry.Event 4 Pull ∷ entry.Nexts 2 3 ∷ entry.Note m ∷ []) ≡ n ∷ m ∷ []
notes_row n m = refl

-- a run of Nexts changes no count
pub counted_row : (message : Mail) → AllBelong 0 (entry.Event 1 (Create message) ∷ entry.Nexts 2 3 ∷ entry.Event 1 (CutOut 2) ∷ [])
counted_row message = (refl, (tt, (refl, tt)))

-- a Create that issued the first version tells no other counter
pub other_counter_row : (message : Mail) → Belongs 0 (entry.Event 2 (Create message)) → ⊥
other_counter_row message is = cc is

-- a head belongs nowhere but first
pub second_head_row : (head : HeadParts) → Belongs 0 (entry.Head head) → ⊥
second_head_row head is = is

-- ---- why a journal isn't opened

abbrev run : Entry
run = entry.Nexts 2 3

is_run : Spells run (entry_bytes run)
is_run = record { in_grammar = (omega arith, omega arith); written = refl }

-- behind the head a run of Nexts and then a text without a byte: it is the second one behind the head that isn't read
pub unread_row : StopsAt (entry_bytes run ∷ [] ∷ []) (fault.BadEntry 2 Truncated)
unread_row = record {
  before = run ∷ [];
  text = [];
  left = [];
  all = refl;
  in_grammar = (is_run.in_grammar, tt);
  order = record { belong = (tt, tt); few = omega arith };
  wrong = inl (refl, refl);
}

-- a run of Nexts with a byte behind it is no entry
pub longer_row : IsUnread 1 (entry_bytes run ++ 7 ∷ []) (fault.Misplaced 1)
longer_row = (refl, record { found = run; front = entry_bytes run; left = 7 ∷ []; spells = is_run; text_is = refl; some = λ none. cc })

-- a head that stands second
pub misplaced_row : (head : HeadParts) → IsOutOfOrder 1 0 0 (entry.Head head) (fault.Misplaced 1)
misplaced_row head = (head, refl, refl)

-- a Pull behind no version, with the count of one
pub counter_row : IsOutOfOrder 1 0 0 (entry.Event 1 Pull) (fault.OtherCounter 1)
counter_row = (1, Pull, refl, refl, λ is. omega (arith, is))

pub cut_row : IsCut (CutIn 3) × (IsCut (Next 3) → ⊥)
cut_row = (tt, λ is. is)

-- where replica 3 has issued one version, somebody who knows its second knows more
pub above_row : IsAbove 3 1 (record { author = 3; counter = 2 })
above_row = (refl, lit< tt)

-- ---- what is given of a stream at a time

-- the End takes its length, format, kind and header, 4, 1, 1 and 24 bytes
pub end_row : (header : Header) → (size_of (record { header = header; body = End }) ≡ 30) × (is_end (record { header = header; body = End }) ≡ true)
end_row header = (refl, refl)

-- before the first record one is wanted, but of no bytes none is
pub first_row : WantsMore 3 100 [] × (WantsMore 3 0 [] → ⊥)
first_row = (record { few = omega arith; short = omega arith; no_end = refl }, λ more. omega (arith, more.short))

-- nor behind as many as were asked for, nor behind an End
pub enough_row : (sent : Sent) (header : Header) → (WantsMore 1 100 (sent ∷ []) → ⊥) × (WantsMore 3 100 (record { header = header; body = End } ∷ []) → ⊥)
enough_row sent header = (λ more. omega (arith, more.few), λ more. let is : true ≡ false = more.no_end in cc)

-- ---- faults with the words of the system

-- where it said nothing of the device, the fault stays
pub unsaid_row : explained_kept kept.Failed None ≡ Kept kept.Failed
unsaid_row = refl

-- and what it said before belongs to no other fault
pub other_fault_row : (said : Error) → explained_kept kept.TooLarge (Some said) ≡ Kept kept.TooLarge
other_fault_row said = refl

pub device_row : (said : Error) → explained_open (fault.Kept kept.Failed) (Some said) ≡ Device said
device_row said = refl

-- ---- what can be kept

-- a Pull can be kept wherever the device has not failed, and nothing once it has
pub pull_row : {D : Type 0} (journal : Journal D) → has_failed journal ≡ false → MayKeep journal Pull
pull_row journal sound = record { sound = sound; short = omega arith }

pub failed_row : {D : Type 0} (journal : Journal D) (event : Event) → has_failed journal ≡ true → MayKeep journal event → ⊥
failed_row journal event failed may = let is : true ≡ false = sym failed ∙ may.sound in cc

-- where nothing waits, no room is wanted
pub no_room_row : {K D V : Type 0} (j : Journaled K D V) → has_failed (journal_of j) ≡ false → entries_waiting j ≡ [] → CanCommit j
no_room_row j sound none = record { sound = sound; room = λ some. absurd (some none) }

-- of a Retire nobody but its caller is told; what a Next gives may leave, and so is never given at once
pub held_row : (is_held_back (Next 2) ≡ true) × (is_held_back Retire ≡ false)
held_row = (refl, refl)

pub later_row : {K D V : Type 0} (form : Form K) (old new : Journaled K D V) (reply : Reply) → Asks form old (Next 2) (Ok (Some reply)) new → ⊥
later_row form old new reply h = let no : true ≡ false = h.0 in cc

-- behind 2^32 - 1 Nexts of a stream one more has no entry, but one of another stream has
pub long_run_row : HasNoEntry 0 2 4294967295 (Next 2) × (HasNoEntry 0 2 4294967295 (Next 3) → ⊥)
long_run_row = ((refl, omega arith), λ is. omega (arith, is.0))

-- ---- why no replica is begun

-- by a limit of no event, or of more than a replica admits
pub no_limit_row : (file birth mark : List ℕ) → IsBeginFault file 3 [] 0 birth mark (fault.Replay BadLimit) × IsBeginFault file 3 [] 1000001 birth mark (fault.Replay BadLimit)
no_limit_row file birth mark = (λ limit. omega (arith, limit.low), λ limit. omega (arith, limit.high))

-- a journal that has an entry, and a setup that can be kept
pub not_empty_row : (file birth mark : List ℕ) (entries : List (List ℕ)) → entries ≢ [] → Stands entries file → IsBeginFault file 3 [] 100 birth mark fault.NotEmpty
not_empty_row file birth mark entries some stands = (record { low = omega arith; high = omega arith }, (entries, some, stands))
