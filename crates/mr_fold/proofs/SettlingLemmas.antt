-- what crashes leave of a settling
use Rattle.std.proofs.Common.{All, ◌≡◌, ◌≢◌, ◌⊎◌, inl, inr, ⊎_elim, ℕ, true, false, true≢false, arith, List, [], ◌∷◌, ◌++◌, length, take, Ok, Err, refl, sym, ap, subst, ◌∙◌, append_assoc, append-nil}
use Rattle.std.specs.Prelude.{◌==◌, IsTrue, OnOk, Result, map, nat_le}
use Rattle.std.specs.Global.{Vec}
use Rattle.std.proofs.Math.Seq.{take-length}
use Rattle.std.proofs.lemmas.Bool.{and_parts, eqb-true, leb-true}
use Rattle.std.proofs.lemmas.List.{map-append, nil_from_length, take-append-drop}
use Rattle.std.proofs.lemmas.List.Elements.{All-weaker}
use Rattle.mr_version.specs.Name.{Name}
use Rattle.mr_journal.specs.Device.{LeavesOnly}
use Rattle.mr_journal.specs.Format.{Stands}
use Rattle.mr_journal.specs.Journal.{device_of}
use Rattle.mr_journal.specs.declared.device.Device.{Ghosts as DeviceOf}
use Rattle.mr_journal.specs.declared.journal.Journal.{Journal}
use Rattle.mr_journal.proofs.Moments.{started, widened}
use Rattle.mr_entry.specs.Events.{events_of}
use Rattle.mr_entry.specs.Note.{NoteParts}
use Rattle.mr_entry.specs.Spelling.{entry_bytes}
use Rattle.mr_entry.specs.declared.entry.Entry.{Entry}
use Rattle.mr_itemset.specs.Normal.{Normal}
use Rattle.mr_replica.specs.State.{State}
use Rattle.mr_replica.specs.declared.event.Event.{Event}
use Rattle.mr_kept.specs.declared.journaled.Journaled.{Journaled}
use Rattle.mr_kept.specs.Entries.{notes_of}
use Rattle.mr_kept.specs.Kept.{IsKept, Noted, SameJournal, entries_waiting, issued_of, journal_of, kept_of, nothing_waits, notes_waiting, replica_of, waiting}
use Rattle.mr_kept.proofs.EntryLemmas.{events_append, notes_append}
use Rattle.mr_kept.proofs.RunLemmas.{batch_notes, batch_tells}
use Rattle.mr_kept.proofs.KeptLemmas.{kept_on, stands_now}
use Rattle.mr_compare.specs.declared.compare.MailAct.{MailAct}
use Rattle.mr_compare.specs.declared.joining.ItemHeads.{ItemHeads}
use Rattle.mr_fold.specs.Settling.{AddsAtOnce, HasAll, HasShown, IsNoted, IsToldFirst, Leaves, Settles, Stay, shown_notes}
use Rattle.mr_fold.specs.Shown.{shown_note}
use Rattle.mr_fold.specs.Telling.{Grows, Telling, TellsAll}
use Rattle.mr_fold.specs.inner.Settling.{AddsWaiting}
use Rattle.mr_fold.proofs.TellingLemmas.{grows_then}

-- ---- the journal stays

module _ {K D V : Type 0} where
  pub same_journal : (a : Journaled K D V) → SameJournal a a
  same_journal a = record { journal = refl; head = refl; kept = refl; issued = refl; notes = refl }

  pub same_then : (a b c : Journaled K D V) → SameJournal a b → SameJournal b c → SameJournal a c
  same_then a b c first second = record {
    journal = second.journal ∙ first.journal;
    head = second.head ∙ first.head;
    kept = second.kept ∙ first.kept;
    issued = second.issued ∙ first.issued;
    notes = second.notes ∙ first.notes;
  }

-- ---- the files stay

module _ {F : Type 0} {are_synced : F → Type 0} {is_shown : F → MailAct → Type 0} where
  pub stay_still : (files : F) → Stay are_synced is_shown files files
  stay_still files = record { synced = λ is. is; shown = λ mail is. is }

  pub stay_then : (a b c : F) → Stay are_synced is_shown a b → Stay are_synced is_shown b c → Stay are_synced is_shown a c
  stay_then a b c first second = record { synced = λ is. second.synced (first.synced is); shown = λ mail is. second.shown mail (first.shown mail is) }

  -- what was shown still is
  pub all_stay : (mails : List MailAct) (old new : F) → Stay are_synced is_shown old new → All (is_shown old) mails → All (is_shown new) mails
  all_stay mails old new stay all = All-weaker (is_shown old) (is_shown new) stay.shown mails all

-- ---- in two parts

pub none_from : {X : Type 0} (xs : List X) → (length xs == 0) ≡ true → xs ≡ []
none_from xs is = nil_from_length xs (eqb-true (length xs) 0 is)

pub some_from : {X : Type 0} (xs : List X) → (length xs == 0) ≡ false → xs ≢ []
some_from {X = X} xs is none = true≢false (sym (ap (λ (l : List X). length l == 0) none) ∙ is)

-- ---- notes

-- where nothing waits, no note does
pub none_waits : {K D V : Type 0} (j : Journaled K D V) → nothing_waits j ≡ true → notes_waiting j ≡ []
none_waits j none = none_from (notes_waiting j) (and_parts (nat_le (length (replica_of j).log) (kept_of j)) (length (notes_waiting j) == 0) none).1

-- notes of what is shown, behind others, where none waited between
pub notes_behind : {between : List NoteParts} (waited : List NoteParts) (first more : List Entry) (parts rest : List ℕ) (mid all : ℕ) (lacking : List Name) → between ≡ [] → notes_of first ≡ waited ++ shown_notes (parts ++ mid ∷ []) lacking
    → notes_of more ≡ between ++ shown_notes (rest ++ all ∷ []) lacking → notes_of (first ++ more) ≡ waited ++ shown_notes (((parts ++ mid ∷ []) ++ rest) ++ all ∷ []) lacking
notes_behind waited first more parts rest mid all lacking none first_are more_are =
    let before : List ℕ = parts ++ mid ∷ [] in
    let last : List NoteParts = shown_notes (rest ++ all ∷ []) lacking in
    notes_append first more ∙ ap (λ (l : List NoteParts). l ++ notes_of more) first_are
    ∙ ap (λ (l : List NoteParts). (waited ++ shown_notes before lacking) ++ l) (more_are ∙ ap (λ (l : List NoteParts). l ++ last) none)
    ∙ append_assoc waited (shown_notes before lacking) last ∙ ap (λ (l : List NoteParts). waited ++ l) (sym (map-append (λ (entries : ℕ). shown_note entries lacking) before (rest ++ all ∷ [])))
    ∙ ap (λ (l : List ℕ). waited ++ shown_notes l lacking) (sym (append_assoc before rest (all ∷ [])))

module _ {K D V : Type 0} where
  -- those of a commit of what was told
  pub notes_told : (old told : Journaled K D V) → SameJournal old told → notes_of (entries_waiting told) ≡ notes_waiting old
  notes_told old told same = batch_notes (issued_of told) (waiting told) (notes_waiting told) ∙ same.notes

  -- those of a commit of the note, and of what waited before it
  pub notes_by : (waited : List NoteParts) (old noted new : Journaled K D V) (lacking : List Name) → notes_waiting old ≡ waited → Noted (shown_note (length (replica_of old).feed) lacking) old noted → replica_of new ≡ replica_of noted
      → notes_of (entries_waiting noted) ≡ waited ++ shown_note (length (replica_of new).feed) lacking ∷ []
  notes_by waited old noted new lacking are put replica =
      batch_notes (issued_of noted) (waiting noted) (notes_waiting noted) ∙ put.notes_are ∙ ap (λ (l : List NoteParts). l ++ shown_note (length (replica_of old).feed) lacking ∷ []) are
      ∙ ap (λ (s : State K). waited ++ shown_note (length s.feed) lacking ∷ []) (sym (replica ∙ put.replica))

  -- those of both, one after the other
  pub notes_after : (old told mid noted new : Journaled K D V) (lacking : List Name) → SameJournal old told → notes_waiting mid ≡ [] → Noted (shown_note (length (replica_of mid).feed) lacking) mid noted → replica_of new ≡ replica_of noted
      → notes_of (entries_waiting told ++ entries_waiting noted) ≡ notes_waiting old ++ shown_note (length (replica_of new).feed) lacking ∷ []
  notes_after old told mid noted new lacking same none put replica =
      notes_append (entries_waiting told) (entries_waiting noted) ∙ ap (λ (l : List NoteParts). l ++ notes_of (entries_waiting noted)) (notes_told old told same)
      ∙ ap (λ (l : List NoteParts). notes_waiting old ++ l) (notes_by [] mid noted new lacking none put replica)

-- ---- what the journal keeps

module _ {K D V : Type 0} {seen : D → List ℕ} {may_leave : D → List ℕ → Type 0} where
  -- a note waits
  pub kept_noted : (entries : List Entry) (old noted : Journaled K D V) (note : NoteParts) → IsKept seen may_leave entries old → Noted note old noted → IsKept seen may_leave entries noted
  kept_noted entries old noted note kept put =
      kept_on entries old noted [] kept put.journal put.head put.kept put.issued (ap (λ (s : State K). s.log) put.replica ∙ sym (append-nil (replica_of old).log))

  -- the events of what is kept and of what waits are all
  pub told_events : (entries : List Entry) (j : Journaled K D V) → IsKept seen may_leave entries j → events_of (entries ++ entries_waiting j) ≡ (replica_of j).log
  told_events entries j is =
      let more : List Entry = entries_waiting j in
      events_append entries more ∙ ap (λ (l : List Event). l ++ events_of more) is.events ∙ ap (λ (l : List Event). take (kept_of j) (replica_of j).log ++ l) (batch_tells (issued_of j) (waiting j) (notes_waiting j))
      ∙ take-append-drop (kept_of j) (replica_of j).log

  -- all events of a journal are kept, for which nothing waits
  pub all_events : (entries : List Entry) (j : Journaled K D V) → IsKept seen may_leave entries j → nothing_waits j ≡ true → events_of entries ≡ (replica_of j).log
  all_events entries j is none =
      let few = and_parts (nat_le (length (replica_of j).log) (kept_of j)) _ none in
      let all : kept_of j ≡ length (replica_of j).log = omega (arith, leb-true (kept_of j) (length (replica_of j).log) is.within, leb-true (length (replica_of j).log) (kept_of j) few.0) in
      is.events ∙ ap (λ (n : ℕ). take n (replica_of j).log) all ∙ take-length (replica_of j).log

  -- a commit of the note, and of what waited before it
  pub noted_by : (entries : List Entry) (waited : List NoteParts) (old noted new : Journaled K D V) (lacking : List Name) → notes_waiting old ≡ waited → Noted (shown_note (length (replica_of old).feed) lacking) old noted → replica_of new ≡ replica_of noted
      → IsKept seen may_leave (entries ++ entries_waiting noted) new → IsNoted seen may_leave entries waited new lacking
  noted_by entries waited old noted new lacking are put replica kept = record { more = entries_waiting noted; kept = kept; parts = []; notes = notes_by waited old noted new lacking are put replica }

  -- a commit of the note, behind one of what waited and of what was told
  pub noted_after : (entries : List Entry) (old told mid noted new : Journaled K D V) (lacking : List Name) → SameJournal old told → notes_waiting mid ≡ [] → Noted (shown_note (length (replica_of mid).feed) lacking) mid noted → replica_of new ≡ replica_of noted
      → IsKept seen may_leave ((entries ++ entries_waiting told) ++ entries_waiting noted) new → IsNoted seen may_leave entries (notes_waiting old) new lacking
  noted_after entries old told mid noted new lacking same none put replica kept = record {
    more = entries_waiting told ++ entries_waiting noted;
    kept = subst (λ (l : List Entry). IsKept seen may_leave l new) (append_assoc entries (entries_waiting told) (entries_waiting noted)) kept;
    parts = [];
    notes = notes_after old told mid noted new lacking same none put replica;
  }

  -- the notes of a settling, behind those of another
  pub noted_behind : (entries : List Entry) (waited : List NoteParts) (mid new : Journaled K D V) (lacking : List Name) → notes_waiting mid ≡ [] → (first : IsNoted seen may_leave entries waited mid lacking)
      → IsNoted seen may_leave (entries ++ first.more) (notes_waiting mid) new lacking → IsNoted seen may_leave entries waited new lacking
  noted_behind entries waited mid new lacking none first is = record {
    more = first.more ++ is.more;
    kept = subst (λ (l : List Entry). IsKept seen may_leave l new) (append_assoc entries first.more is.more) is.kept;
    parts = (first.parts ++ length (replica_of mid).feed ∷ []) ++ is.parts;
    notes = notes_behind waited first.more is.more first.parts is.parts (length (replica_of mid).feed) (length (replica_of new).feed) lacking none first.notes is.notes;
  }

module _ {D V : Type 0} {seen : D → List ℕ} {may_leave : D → List ℕ → Type 0} where
  -- what was told waits
  pub kept_told : {Tells : Telling} (entries : List Entry) (old told : Journaled Normal D V) → SameJournal old told → Grows Tells (replica_of old) (replica_of told) → IsKept seen may_leave entries old → IsKept seen may_leave entries told
  kept_told entries old told same grows kept = kept_on entries old told grows.events kept same.journal same.head same.kept same.issued grows.log

  -- a commit of what waited, and of what was told
  pub told_kept : (entries : List Entry) (held : List (List ℕ × Vec ItemHeads)) (mails : List MailAct) (old told new : Journaled Normal D V) → SameJournal old told → Grows (TellsAll held mails) (replica_of old) (replica_of told)
      → IsKept seen may_leave entries old → (IsKept seen may_leave entries told → IsKept seen may_leave (entries ++ entries_waiting told) new) → nothing_waits new ≡ true → replica_of new ≡ replica_of told
      → IsToldFirst seen may_leave entries held mails old new
  told_kept entries held mails old told new same grows before keeps all_kept replica = record {
    told = subst (λ (s : State Normal). Grows (TellsAll held mails) (replica_of old) s) (sym replica) grows;
    all_kept = all_kept;
    more = entries_waiting told;
    kept = keeps (kept_told entries old told same grows before);
    notes = notes_told old told same;
  }

-- ---- crashes

module _ {K D V : Type 0} {seen : D → List ℕ} {may_leave : D → List ℕ → Type 0} {moment : D → ℕ} {left_since : D → ℕ → List ℕ → Type 0} where
  -- a journal that nothing was written to
  pub unwritten : (entries : List Entry) (old new : Journaled K D V) (P : List ℕ → Type 0) → ((c : List ℕ) → Stands (map entry_bytes entries) c → P c)
      → ((device : D) (c : List ℕ) → left_since device (moment device) c → may_leave device c) → IsKept seen may_leave entries old → journal_of new ≡ journal_of old
      → LeavesOnly moment left_since (device_of (journal_of old)) (device_of (journal_of new)) P
  unwritten entries old new P before only kept same =
      let device = device_of (journal_of old) in
      subst (λ (j : Journal D). LeavesOnly moment left_since device (device_of j) P) (sym same) (started {old = device} (λ c left. before c (stands_now entries old kept c (only device c left))))

module _ {D V : Type 0} {seen : D → List ℕ} {may_leave : D → List ℕ → Type 0} {moment : D → ℕ} {left_since : D → ℕ → List ℕ → Type 0} where
  -- a commit of what waited, of what was told, and of the note
  pub told_at_once : {Tells : Telling} (lacking : List Name) (entries : List Entry) (old told noted new : Journaled Normal D V) → SameJournal old told → Grows Tells (replica_of old) (replica_of told)
      → Noted (shown_note (length (replica_of told).feed) lacking) told noted → replica_of new ≡ replica_of noted → IsKept seen may_leave entries old
      → (IsKept seen may_leave entries noted → LeavesOnly moment left_since (device_of (journal_of noted)) (device_of (journal_of new)) (AddsWaiting noted new entries))
      → LeavesOnly moment left_since (device_of (journal_of old)) (device_of (journal_of new)) (AddsAtOnce lacking old new entries)
  told_at_once lacking entries old told noted new same grows put replica kept commit =
      let here : IsKept seen may_leave entries noted = kept_noted entries told noted _ (kept_told entries old told same grows kept) put in
      let leaves = subst (λ (j : Journal D). LeavesOnly moment left_since (device_of j) (device_of (journal_of new)) (AddsWaiting noted new entries)) (put.journal ∙ same.journal) (commit here) in
      widened (AddsAtOnce lacking old new entries) leaves
      (λ c left. ⊎_elim
      (λ before. inl before)
      (λ all. inr (record {
        more = entries_waiting noted;
        stands = all;
        events = told_events entries noted here ∙ sym (ap (λ (s : State Normal). s.log) replica);
        notes = notes_by (notes_waiting old) told noted new lacking same.notes put replica;
      })) left)

module _ {K D V : Type 0} where
  -- all at once, where it is told of no part
  pub shown_at_once : (entries : List Entry) (old new : Journaled K D V) (lacking : List Name) (c : List ℕ) → HasAll c entries old new (shown_note (length (replica_of new).feed) lacking) → HasShown c entries (notes_waiting old) (replica_of new) lacking
  shown_at_once entries old new lacking c all = record { more = all.more; stands = all.stands; events = all.events; parts = []; notes = all.notes }

-- ---- settlings

module _ {D V F : Type 0} (device : DeviceOf D) (are_synced : F → Type 0) (held : List (List ℕ × Vec ItemHeads)) (lacking : List Name) where
  -- where the last commit does what it has to
  pub settles_if_kept : {T E : Type 0} (result : Result T E) (mails : List MailAct) (old new : Journaled Normal D V) (files : F) → OnOk result (nothing_waits new ≡ true) → are_synced files → Grows (TellsAll held mails) (replica_of old) (replica_of new)
      → (IsTrue device.is_told → (entries : List Entry) → IsKept device.seen device.may_leave entries old → OnOk result (IsNoted device.seen device.may_leave entries (notes_waiting old) new lacking))
      → OnOk result (Settles device are_synced held mails lacking old new files)
  settles_if_kept (Ok value) mails old new files all_kept all_synced told noted = record { all_kept = all_kept; all_synced = all_synced; told = told; noted = noted }
  settles_if_kept (Err fault) mails old new files all_kept all_synced told noted = tt

module _ {D V F : Type 0} {device : DeviceOf D} {are_synced : F → Type 0} {held : List (List ℕ × Vec ItemHeads)} {lacking : List Name} where
  -- where the first part is none
  pub settles_alone : (moved standing : List MailAct) (old new : Journaled Normal D V) (files : F) → moved ≡ [] → Settles device are_synced held standing lacking old new files
      → Settles device are_synced held (moved ++ standing) lacking old new files
  settles_alone moved standing old new files none is = subst (λ (acts : List MailAct). Settles device are_synced held (acts ++ standing) lacking old new files) (sym none) is

  -- where the second part is none
  pub settles_first : (moved standing : List MailAct) (old new : Journaled Normal D V) (files : F) → standing ≡ [] → Settles device are_synced held moved lacking old new files
      → Settles device are_synced held (moved ++ standing) lacking old new files
  settles_first moved standing old new files none is =
      subst (λ (acts : List MailAct). Settles device are_synced held acts lacking old new files) (sym (ap (λ (rest : List MailAct). moved ++ rest) none ∙ append-nil moved)) is

  -- one part, and then the other
  pub settles_then : (moved standing : List MailAct) (old mid new : Journaled Normal D V) (before files : F) → Settles device are_synced held moved lacking old mid before
      → Settles device are_synced held standing lacking mid new files → Settles device are_synced held (moved ++ standing) lacking old new files
  settles_then moved standing old mid new before files first rest = record {
    all_kept = rest.all_kept;
    all_synced = rest.all_synced;
    told = grows_then held moved standing (replica_of old) (replica_of mid) (replica_of new) first.told rest.told;
    noted = λ is entries kept.
        let one = first.noted is entries kept in
        noted_behind entries (notes_waiting old) mid new lacking (none_waits mid first.all_kept) one (rest.noted is (entries ++ one.more) one.kept);
  }

  -- a call behind a settling leaves what that one told and showed, or what the log has then
  pub leaves_behind : (mails : List MailAct) (old mid new : Journaled Normal D V) (files : F) → Settles device are_synced held mails lacking old mid files
      → Leaves device mid new (AddsAtOnce lacking) → IsTrue device.is_told → (entries : List Entry) → IsKept device.seen device.may_leave entries old
      → LeavesOnly device.moment device.left_since (device_of (journal_of mid)) (device_of (journal_of new)) (λ c. HasShown c entries (notes_waiting old) (replica_of mid) lacking ⊎ HasShown c entries (notes_waiting old) (replica_of new) lacking)
  leaves_behind mails old mid new files first once is entries kept =
      let one = first.noted is entries kept in
      widened (λ c. HasShown c entries (notes_waiting old) (replica_of mid) lacking ⊎ HasShown c entries (notes_waiting old) (replica_of new) lacking) (once is (entries ++ one.more) one.kept)
      (λ c left. ⊎_elim
      (λ stands. inl (record { more = one.more; stands = stands; events = all_events (entries ++ one.more) mid one.kept first.all_kept; parts = one.parts; notes = one.notes }))
      (λ all. inr (record {
        more = one.more ++ all.more;
        stands = subst (λ (l : List Entry). Stands (map entry_bytes l) c) (append_assoc entries one.more all.more) all.stands;
        events = ap events_of (sym (append_assoc entries one.more all.more)) ∙ all.events;
        parts = (one.parts ++ length (replica_of mid).feed ∷ []) ++ [];
        notes = notes_behind (notes_waiting old) one.more all.more one.parts [] (length (replica_of mid).feed) (length (replica_of new).feed) lacking (none_waits mid first.all_kept) one.notes all.notes;
      })) left)
