-- what a host's file has once all acts are done
use Rattle.std.proofs.Common.{◌≡◌, inl, true, Err, List, [], ◌++◌, sym, ap, subst, ◌∙◌, append-nil}
use Rattle.std.proofs.lemmas.List.{take-append-drop}
use Rattle.std.specs.Prelude.{map}
use Rattle.std.specs.List.{AllByRecursion}
use Rattle.mr_forms.specs.Known.{Form}
use Rattle.mr_journal.specs.Format.{Stands}
use Rattle.mr_journal.specs.Journal.{device_of}
use Rattle.mr_entry.specs.Events.{events_of}
use Rattle.mr_entry.specs.Grammar.{IsEntry}
use Rattle.mr_entry.specs.Head.{HeadParts}
use Rattle.mr_entry.specs.Note.{NoteParts}
use Rattle.mr_entry.specs.Spelling.{entry_bytes}
use Rattle.mr_entry.specs.declared.entry.Entry.{Entry}
use Rattle.mr_replica.specs.Replay.{IsItsLog}
use Rattle.mr_replica.specs.State.{State}
use Rattle.mr_replica.specs.declared.event.Event.{Event}
use Rattle.mr_kept.specs.declared.fault.KeptFault.{KeptFault}
use Rattle.mr_kept.specs.declared.fault.KeptFault.TheVariants.{Unsettled}
use Rattle.mr_kept.specs.declared.journaled.Journaled.{Journaled}
use Rattle.mr_kept.specs.Entries.{notes_of}
use Rattle.mr_kept.specs.Kept.{IsKept, entries_waiting, head_of, issued_of, journal_of, kept_of, notes_waiting, replica_of, waiting}
use Rattle.mr_kept.specs.Whole.{HasLogOf, IsOf}
use Rattle.mr_kept.proofs.EntryLemmas.{events_head, notes_append, notes_head}
use Rattle.mr_kept.proofs.RunLemmas.{batch_notes}
use Rattle.mr_hosted.specs.Commit.{HostCommits, IsUnhanded}
use Rattle.mr_hosted.specs.Hosted.{is_settled}
use Rattle.mr_hosted.specs.Outbox.{file_of, may_leave}
use Rattle.mr_hosted.specs.declared.hosted.Hosted.{Hosted}
use Rattle.mr_hosted.specs.declared.outbox.Outbox.{Outbox}

module _ {K V : Type 0} (form : Form K) where
  -- where no event waits it has the replica's log, and the notes of its entries
  has_all : (entries : List Entry) (j : Journaled K Outbox V) → IsKept file_of may_leave entries j → waiting j ≡ [] → IsItsLog form (replica_of j) → IsOf (head_of j) (replica_of j)
      → HasLogOf form (file_of (device_of (journal_of j))) (head_of j) (replica_of j) (notes_of entries)
  has_all entries j kept none log of =
      let file = file_of (device_of (journal_of j)) in
      let head : HeadParts = head_of j in
      let stands : Stands (map entry_bytes entries) file = inl (record { front = kept.device.front; left = []; batches = kept.device.batches; file_is = kept.device.rests.file_is }) in
      let told : (replica_of j).log ≡ events_of entries ++ waiting j = sym (ap (λ (l : List Event). l ++ waiting j) kept.events ∙ take-append-drop (kept_of j) (replica_of j).log) in
      record {
        entries = kept.order.behind;
        in_grammar = subst (λ (l : List Entry). AllByRecursion IsEntry l) kept.order.first kept.in_grammar;
        stands = subst (λ (l : List Entry). Stands (map entry_bytes l) file) kept.order.first stands;
        belong = kept.order.belong;
        head_is = of;
        log_is = told ∙ ap (λ (l : List Event). events_of entries ++ l) none ∙ append-nil (events_of entries) ∙ ap events_of kept.order.first ∙ events_head head kept.order.behind;
        notes_are = sym (ap notes_of kept.order.first ∙ notes_head head kept.order.behind);
        is_its_log = log;
      }

  -- once what waited is kept, the notes are those from before and those that waited
  pub all_kept : (entries : List Entry) (old new : Journaled K Outbox V) → IsKept file_of may_leave (entries ++ entries_waiting old) new → waiting new ≡ [] → replica_of new ≡ replica_of old → head_of new ≡ head_of old
      → IsItsLog form (replica_of old) → IsOf (head_of old) (replica_of old) → HasLogOf form (file_of (device_of (journal_of new))) (head_of new) (replica_of new) (notes_of entries ++ notes_waiting old)
  all_kept entries old new kept none replica head log of =
      let of_replica = subst (λ (s : State K). IsOf (head_of old) s) (sym replica) of in
      let of_new = subst (λ (h : HeadParts). IsOf h (replica_of new)) (sym head) of_replica in
      let has = has_all (entries ++ entries_waiting old) new kept none (subst (λ (s : State K). IsItsLog form s) (sym replica) log) of_new in
      let notes = notes_append entries (entries_waiting old) ∙ ap (λ (l : List NoteParts). notes_of entries ++ l) (batch_notes (issued_of old) (waiting old) (notes_waiting old)) in
      subst (λ (ns : List NoteParts). HasLogOf form (file_of (device_of (journal_of new))) (head_of new) (replica_of new) ns) notes has

module _ {K V : Type 0} (form : Form K) where
  -- a journal that isn't committed never says that the host has acts to do
  pub unhanded : (old new : Hosted K V) (fault : KeptFault) → (is_settled old ≡ true) × IsUnhanded form old fault new → HostCommits form old (Err fault) new
  unhanded old new Unsettled h = absurd h.1.uncommitted.why
  unhanded old new fault h = h
