-- what crashes leave of a settling for which files are moved
use Rattle.std.proofs.Common.{◌≡◌, inl, inr, ⊎_elim, ℕ, true, List, [], ◌++◌, length, sym, ap, subst, ◌∙◌, append_assoc}
use Rattle.std.specs.Prelude.{map}
use Rattle.std.specs.Global.{Vec}
use Rattle.mr_version.specs.Name.{Name}
use Rattle.mr_journal.specs.Device.{LeavesOnly}
use Rattle.mr_journal.specs.Format.{Stands}
use Rattle.mr_journal.specs.Journal.{device_of}
use Rattle.mr_journal.specs.declared.device.Device.{Ghosts as DeviceOf}
use Rattle.mr_journal.specs.declared.journal.Journal.{Journal}
use Rattle.mr_journal.proofs.Moments.{joined, widened}
use Rattle.mr_entry.specs.Events.{events_of}
use Rattle.mr_entry.specs.Spelling.{entry_bytes}
use Rattle.mr_entry.specs.declared.entry.Entry.{Entry}
use Rattle.mr_itemset.specs.Normal.{Normal}
use Rattle.mr_replica.specs.State.{State}
use Rattle.mr_kept.specs.declared.journaled.Journaled.{Journaled}
use Rattle.mr_kept.specs.Kept.{IsKept, Noted, SameJournal, entries_waiting, journal_of, nothing_waits, notes_waiting, replica_of}
use Rattle.mr_compare.specs.declared.compare.MailAct.{MailAct}
use Rattle.mr_compare.specs.declared.joining.ItemHeads.{ItemHeads}
use Rattle.mr_fold.specs.Settling.{AddsAtOnce, AddsInTurn, HasBegun, HasShown, HasTold, Leaves, Settles}
use Rattle.mr_fold.specs.Shown.{shown_note}
use Rattle.mr_fold.specs.Telling.{Grows, TellsAll}
use Rattle.mr_fold.specs.inner.Settling.{AddsWaiting}
use Rattle.mr_fold.proofs.SettlingLemmas.{kept_noted, kept_told, leaves_behind, none_waits, notes_after, notes_told, shown_at_once, told_events}

module _ {D V : Type 0} {moment : D → ℕ} {left_since : D → ℕ → List ℕ → Type 0} (held : List (List ℕ × Vec ItemHeads)) (lacking : List Name) (moved others : List MailAct) (old now : Journaled Normal D V) (entries : List Entry) where
  -- where some of the others are settled later
  pub begins_more : (first after : List MailAct) → others ≡ first ++ after → LeavesOnly moment left_since (device_of (journal_of old)) (device_of (journal_of now)) (AddsInTurn held lacking moved first old now entries)
      → LeavesOnly moment left_since (device_of (journal_of old)) (device_of (journal_of now)) (AddsInTurn held lacking moved others old now entries)
  begins_more first after are leaves =
      widened (AddsInTurn held lacking moved others old now entries) leaves
      (λ c left. ⊎_elim (λ before. inl before) (λ behind. inr (⊎_elim (λ told. inl told) (λ then. inr (⊎_elim
      (λ begun. inl (record {
        first = begun.first;
        rest = begun.rest ++ after;
        are = are ∙ ap (λ (l : List MailAct). l ++ after) begun.are ∙ append_assoc begun.first begun.rest after;
        then = begun.then;
        told = begun.told;
        has = begun.has;
      }))
      (λ shown. inr shown) then)) behind)) left)

  -- where no file is moved
  pub begins_at_once : LeavesOnly moment left_since (device_of (journal_of old)) (device_of (journal_of now)) (AddsAtOnce lacking old now entries)
      → LeavesOnly moment left_since (device_of (journal_of old)) (device_of (journal_of now)) (AddsInTurn held lacking moved others old now entries)
  begins_at_once leaves =
      widened (AddsInTurn held lacking moved others old now entries) leaves
      (λ c left. ⊎_elim (λ before. inl before) (λ all. inr (inr (inr (shown_at_once entries old now lacking c all)))) left)

module _ {D V : Type 0} {seen : D → List ℕ} {may_leave : D → List ℕ → Type 0} (held : List (List ℕ × Vec ItemHeads)) (entries : List Entry) (mails : List MailAct) (old told : Journaled Normal D V) where
  -- what was told, once it is kept
  has_told : SameJournal old told → Grows (TellsAll held mails) (replica_of old) (replica_of told) → IsKept seen may_leave entries told → (c : List ℕ) → Stands (map entry_bytes (entries ++ entries_waiting told)) c
      → HasTold c entries (notes_waiting old) held mails (replica_of old)
  has_told same grows kept c stands = record {
    then = replica_of told;
    told = grows;
    more = entries_waiting told;
    stands = stands;
    events = told_events entries told kept;
    notes = notes_told old told same;
  }

module _ {D V : Type 0} {seen : D → List ℕ} {may_leave : D → List ℕ → Type 0} {moment : D → ℕ} {left_since : D → ℕ → List ℕ → Type 0} (held : List (List ℕ × Vec ItemHeads)) (lacking : List Name) (entries : List Entry) (mails others : List MailAct) (old told : Journaled Normal D V) where
  -- a commit of what was told
  pub tells_first : (new now : Journaled Normal D V) → SameJournal old told → Grows (TellsAll held mails) (replica_of old) (replica_of told) → IsKept seen may_leave entries old
      → (IsKept seen may_leave entries told → LeavesOnly moment left_since (device_of (journal_of told)) (device_of (journal_of new)) (AddsWaiting told new entries))
      → LeavesOnly moment left_since (device_of (journal_of old)) (device_of (journal_of new)) (AddsInTurn held lacking mails others old now entries)
  tells_first new now same grows kept commit =
      let waits : IsKept seen may_leave entries told = kept_told entries old told same grows kept in
      let leaves = subst (λ (j : Journal D). LeavesOnly moment left_since (device_of j) (device_of (journal_of new)) (AddsWaiting told new entries)) same.journal (commit waits) in
      widened (AddsInTurn held lacking mails others old now entries) leaves (λ c left. ⊎_elim (λ before. inl before) (λ all. inr (inl (has_told held entries mails old told same grows waits c all))) left)

  -- and behind it one of the note
  pub shows_then : (mid noted new : Journaled Normal D V) → SameJournal old told → Grows (TellsAll held mails) (replica_of old) (replica_of told) → IsKept seen may_leave entries old
      → (IsKept seen may_leave entries told → LeavesOnly moment left_since (device_of (journal_of told)) (device_of (journal_of mid)) (AddsWaiting told mid entries))
      → (IsKept seen may_leave entries told → IsKept seen may_leave (entries ++ entries_waiting told) mid)
      → nothing_waits mid ≡ true → Noted (shown_note (length (replica_of mid).feed) lacking) mid noted → replica_of new ≡ replica_of noted
      → (IsKept seen may_leave (entries ++ entries_waiting told) noted → LeavesOnly moment left_since (device_of (journal_of noted)) (device_of (journal_of new)) (AddsWaiting noted new (entries ++ entries_waiting told)))
      → LeavesOnly moment left_since (device_of (journal_of old)) (device_of (journal_of new)) (AddsInTurn held lacking mails others old new entries)
  shows_then mid noted new same grows kept tells keeps none put replica shows =
      let front : List Entry = entries_waiting told in
      let last : List Entry = entries_waiting noted in
      let waits : IsKept seen may_leave entries told = kept_told entries old told same grows kept in
      let here : IsKept seen may_leave (entries ++ front) noted = kept_noted (entries ++ front) mid noted _ (keeps waits) put in
      let leaves = subst (λ (j : Journal D). LeavesOnly moment left_since (device_of j) (device_of (journal_of new)) (AddsWaiting noted new (entries ++ front))) put.journal (shows here) in
      joined (tells_first mid new same grows kept tells)
      (widened (AddsInTurn held lacking mails others old new entries) leaves (λ c left. inr (⊎_elim
      (λ before. inl (has_told held entries mails old told same grows waits c before))
      (λ all. inr (inr (record {
        more = front ++ last;
        stands = subst (λ (l : List Entry). Stands (map entry_bytes l) c) (append_assoc entries front last) all;
        events = ap events_of (sym (append_assoc entries front last)) ∙ told_events (entries ++ front) noted here ∙ sym (ap (λ (s : State Normal). s.log) replica);
        parts = [];
        notes = notes_after old told mid noted new lacking same (none_waits mid none) put replica;
      }))) left)))

module _ {D V F : Type 0} {device : DeviceOf D} {are_synced : F → Type 0} {held : List (List ℕ × Vec ItemHeads)} {lacking : List Name} where
  -- one call more, behind some that are told and shown
  pub begun_then : (moved others done rest : List MailAct) (old mid new : Journaled Normal D V) (files : F) → others ≡ done ++ rest
      → Settles device are_synced held (moved ++ done) lacking old mid files → Leaves device old mid (AddsInTurn held lacking moved others)
      → Leaves device mid new (AddsAtOnce lacking) → Leaves device old new (AddsInTurn held lacking moved others)
  begun_then moved others done rest old mid new files are settled so_far once is entries kept =
      let begun : (c : List ℕ) → HasShown c entries (notes_waiting old) (replica_of mid) lacking → HasBegun c entries (notes_waiting old) held moved others lacking (replica_of old) =
      λ c shown. record { first = done; rest = rest; are = are; then = replica_of mid; told = settled.told; has = shown } in
      joined
      (widened (AddsInTurn held lacking moved others old new entries) (so_far is entries kept)
      (λ c left. ⊎_elim (λ before. inl before) (λ behind. inr (⊎_elim (λ told. inl told) (λ then. inr (inl (⊎_elim (λ has. has) (λ shown. begun c shown) then))) behind)) left))
      (widened (AddsInTurn held lacking moved others old new entries) (leaves_behind (moved ++ done) old mid new files settled once is entries kept)
      (λ c left. inr (inr (⊎_elim (λ before. inl (begun c before)) (λ all. inr all) left))))
