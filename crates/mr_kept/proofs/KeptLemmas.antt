-- what a journal keeps after a commit
use Rattle.std.proofs.Common.{◌≡◌, ◌⊎◌, inl, ⊎_elim, ℕ, ◌-◌, min, List, [], ◌++◌, length, take, drop, sym, ap, ◌∙◌, arith, length-drop}
use Rattle.mr_kept.proofs.Names.{AreHeaded, AreSpelled, Entry, Event, Global, HeadParts, IsKept, Journaled, Keeps, LeavesOnly}
use Rattle.mr_kept.proofs.Names.{NoteParts, Stands, Vec, batch_entries, contents, device_of, drop_min, entries_waiting, entry_bytes, events_of}
use Rattle.mr_kept.proofs.Names.{head_of, issued_after, issued_of, journal_of, kept_of, le-leb, leb-true, length-append, map, map-append, notes_waiting}
use Rattle.mr_kept.proofs.Names.{replica_of, take-append-drop, take-append-le, take-length, waiting, widened}
use Rattle.mr_kept.proofs.EntryLemmas.{all_append, all_belong, events_append, events_head, issued_append}
use Rattle.mr_kept.proofs.RunLemmas.{batch_belongs, batch_tells}

-- entries of events and notes behind those that are there
pub headed_more : (head new : HeadParts) (entries : List Entry) (issued : ℕ) (events : List Event) (notes : List NoteParts) → new ≡ head → issued ≡ issued_after 0 (events_of entries) → AreHeaded head entries
    → AreHeaded new (entries ++ batch_entries issued events notes)
headed_more head new entries issued events notes same is h = grind (arith, events_head, all_belong, batch_belongs)

module _ {K D V : Type 0} {seen : D → List ℕ} {may_leave : D → List ℕ → Type 0} where
  -- the entries of what waited join those before
  pub kept_after : (entries : List Entry) (old new : Journaled K D V) (batch : List (List ℕ)) → IsKept seen may_leave entries old → AreSpelled (entries_waiting old) batch
      → Keeps seen may_leave (map entry_bytes entries ++ batch) (journal_of new) → head_of new ≡ head_of old → replica_of new ≡ replica_of old → kept_of new ≡ length (replica_of old).log → issued_of new ≡ issued_after (issued_of old) (waiting old)
      → IsKept seen may_leave (entries ++ entries_waiting old) new
  kept_after entries old new batch h spelled keeps head replica kept issued = grind (arith, map-append, events_append, take, batch_tells, take-append-drop, take-length, all_append, headed_more, le-leb, issued_append)

  -- a crash leaves the entries
  pub stands_now : (entries : List Entry) (j : Journaled K D V) → IsKept seen may_leave entries j → (c : List ℕ) → may_leave (device_of (journal_of j)) c → Stands (map entry_bytes entries) c
  stands_now entries j kept c left = inl (record { front = kept.device.front; left = []; batches = kept.device.batches; file_is = kept.device.rests.durable c left })

  -- the replica has gone on, and the journal is as it was
  pub kept_on : (entries : List Entry) (old new : Journaled K D V) (more : List Event) → IsKept seen may_leave entries old → journal_of new ≡ journal_of old → head_of new ≡ head_of old → kept_of new ≡ kept_of old → issued_of new ≡ issued_of old
      → (replica_of new).log ≡ (replica_of old).log ++ more → IsKept seen may_leave entries new
  kept_on entries old new more h journal head kept issued log = grind (arith, leb-true, le-leb, length-append, take, take-append-le)

module _ {K D V : Type 0} where
  -- the events behind those that are kept are those that wait
  pub waiting_is : (old : Journaled K D V) (log : List Event) (n : ℕ) → log ≡ (replica_of old).log → n ≡ min (kept_of old) (length log) → take (length log - n) (drop n log) ≡ waiting old
  waiting_is old log n is place =
      ap (λ (m : ℕ). take m (drop n log)) (sym (length-drop n log)) ∙ take-length (drop n log) ∙ ap (λ (m : ℕ). drop m log) place ∙ drop_min (kept_of old) log ∙ ap (drop (kept_of old)) is

  -- these and the notes make the entries that wait
  pub waits_are : (old : Journaled K D V) (log : List Event) (n : ℕ) (notes : List NoteParts) → log ≡ (replica_of old).log → n ≡ min (kept_of old) (length log) → notes ≡ notes_waiting old
      → batch_entries (issued_of old) (take (length log - n) (drop n log)) notes ≡ entries_waiting old
  waits_are old log n notes is place same = grind (arith, waiting_is)

  -- the bytes of these and of the notes
  pub spelled_waits : (old : Journaled K D V) (log : List Event) (n : ℕ) (notes : List NoteParts) (batch given : List (Vec ℕ Global)) → log ≡ (replica_of old).log → n ≡ min (kept_of old) (length log)
      → notes ≡ notes_waiting old → given ≡ batch → AreSpelled (batch_entries (issued_of old) (take (length log - n) (drop n log)) notes) (contents batch) → AreSpelled (entries_waiting old) (contents given)
  spelled_waits old log n notes batch given is place same_notes same spelled = grind (arith, waits_are)

module _ {K D V : Type 0} {moment : D → ℕ} {left_since : D → ℕ → List ℕ → Type 0} where
  -- the batch is the entries of what waited
  pub moments_all : (entries : List Entry) (old : Journaled K D V) (batch : List (List ℕ)) (before after : D) → AreSpelled (entries_waiting old) batch
      → LeavesOnly moment left_since before after (λ c. Stands (map entry_bytes entries) c ⊎ Stands (map entry_bytes entries ++ batch) c)
      → LeavesOnly moment left_since before after (λ c. Stands (map entry_bytes entries) c ⊎ Stands (map entry_bytes (entries ++ entries_waiting old)) c)
  moments_all entries old batch before after spelled leaves = grind (arith, map-append, widened, ⊎_elim)
