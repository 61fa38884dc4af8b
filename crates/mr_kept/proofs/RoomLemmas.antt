-- why what waits isn't kept
use Rattle.std.proofs.Common.{zero, suc, ◌≡◌, ◌≢◌, ⊎_elim, ℕ, ◌+◌, ◌<◌, ◌≤◌, ◌^◌, List, [], ◌∷◌, ◌++◌, length, take, drop, get_or, Result, Ok, Err, refl, sym, ap, subst, ◌∙◌, append_assoc, add-one, arith}
use Rattle.mr_kept.proofs.Names.{AllByRecursion, AreEntries, AreSoFar, AreSpelled, Entry, EntryFault, Event, Fits, Global, HasNoEntry, IfErr, IsEntry}
use Rattle.mr_kept.proofs.Names.{IsErrAnd, IsOfBatch, IsOfEntries, IsOfEvent, IsOk, IsUncommitted, JournalFault, Journaled, KeptFault, Next, NoteParts, Vec}
use Rattle.mr_kept.proofs.Names.{batch_entries, body, cases_lt, contents, counted, drop-cons, end_of, entries_of, entries_waiting, entry_bytes, eqb_tells}
use Rattle.mr_kept.proofs.Names.{false, false≢true, has_failed, journal_of, map, replicate, replicate_more, run_of, take-append-drop, with_next}
use Rattle.mr_journal.specs.declared.fault.JournalFault.TheVariants as journal
use Rattle.mr_entry.specs.Encoding.{Encodes}
use Rattle.mr_entry.specs.declared.entry.Entry.TheVariants as entry
use Rattle.mr_entry.specs.declared.fault.EntryFault.TheVariants as spelling
use Rattle.mr_kept.specs.declared.fault.KeptFault.TheVariants as kept
use Rattle.mr_kept.specs.Commit.{HasRoom}
use Rattle.mr_kept.specs.Fault.{kept_fault_of, kept_fault_of_entry}
use Rattle.mr_kept.proofs.EntryLemmas.{all_split}
use Rattle.mr_kept.proofs.RunLemmas.{an_entry, begins_none, one_run, run_ends}

-- ---- faults

-- the error is this one
pub err_by : {T E : Type 0} (P : E → Type 0) (r : Result T E) (x : E) → IsErrAnd r (λ y. y ≡ x) → P x → IfErr r P
err_by P r x is p = grind arith

ok_no_err : {T E : Type 0} (r : Result T E) (v : T) (x : E) → r ≡ Ok v → r ≡ Err x → ⊥
ok_no_err r v x is other = cc

-- ---- entries that are none

-- a run of more than so many Nexts stands first
pub record BeginsRun (s k : ℕ) (list : List Entry) : Type 0 where
  pub count : ℕ
  pub rest : List Entry
  pub more : k < count
  pub first : list ≡ entry.Nexts s count ∷ rest

next_first : (s : ℕ) (xs : List Entry) → BeginsRun s 0 (with_next s xs)
next_first s xs = grind (arith, eqb_tells)

run_longer : (s k : ℕ) (list : List Entry) → BeginsRun s k list → BeginsRun s (suc k) (with_next s list)
run_longer s k list h = grind (arith, one_run)

run_first : (n s k : ℕ) (xs : List Event) → BeginsRun s k (entries_of n (replicate (suc k) (Next s) ++ xs))
run_first n s zero xs = next_first s (entries_of n xs)
run_first n s (suc k) xs = run_longer s k (entries_of n (replicate (suc k) (Next s) ++ xs)) (run_first n s k xs)

no_long_run : (s k : ℕ) (list : List Entry) → 2 ^ 32 ≤ k + 1 → BeginsRun s k list → AllByRecursion IsEntry list → ⊥
no_long_run s k list many h all = grind arith

-- one Next more than the run may have
run_over : (n : ℕ) (events : List Event) (texts : List (List ℕ)) (now s k : ℕ) (later : List Event) → AreSoFar n events texts now s k → 2 ^ 32 ≤ k + 1 → AllByRecursion IsEntry (entries_of n (events ++ Next s ∷ later)) → ⊥
run_over n events texts now s k later so_far many all =
    let grown : replicate k (Next s) ++ Next s ∷ later ≡ replicate (suc k) (Next s) ++ later =
    sym (append_assoc (replicate k (Next s)) (Next s ∷ []) later) ∙ ap (λ (l : List Event). l ++ later) (replicate_more k (Next s)) ∙ ap (λ (m : ℕ). replicate m (Next s) ++ later) (add-one k) in
    let at : entries_of n (events ++ Next s ∷ later) ≡ so_far.list ++ entries_of now (replicate (suc k) (Next s) ++ later) =
    so_far.all (Next s ∷ later) ∙ ap (λ (l : List Event). so_far.list ++ entries_of now l) grown in
    no_long_run s k (entries_of now (replicate (suc k) (Next s) ++ later)) many (run_first now s k later)
    (all_split IsEntry so_far.list (entries_of now (replicate (suc k) (Next s) ++ later)) (subst (λ (l : List Entry). AllByRecursion IsEntry l) at all)).1

other_over : (n : ℕ) (events : List Event) (texts : List (List ℕ)) (now s k : ℕ) (e : Event) (later : List Event) → ((u : ℕ) → e ≢ Next u) → AreSoFar n events texts now s k → (IsEntry (entry.Event (counted now e) e) → ⊥)
    → AllByRecursion IsEntry (entries_of n (events ++ e ∷ later)) → ⊥
other_over n events texts now s k e later other so_far none all =
    let behind : List Entry = entry.Event (counted now e) e ∷ entries_of (counted now e) later in
    let at : entries_of n (events ++ e ∷ later) ≡ so_far.list ++ (run_of s k ++ behind) =
    so_far.all (e ∷ later) ∙ ap (λ (l : List Entry). so_far.list ++ l) (run_ends now s k (e ∷ later) (begins_none now s e later other) ∙ ap (λ (l : List Entry). run_of s k ++ l) (an_entry now e later other)) in
    none (all_split IsEntry (run_of s k) behind (all_split IsEntry so_far.list (run_of s k ++ behind) (subst (λ (l : List Entry). AllByRecursion IsEntry l) at all)).1).1.0

over : (n : ℕ) (events : List Event) (texts : List (List ℕ)) (now s k : ℕ) (e : Event) (later : List Event) → AreSoFar n events texts now s k → HasNoEntry now s k e → AllByRecursion IsEntry (entries_of n (events ++ e ∷ later)) → ⊥
over n events texts now s k (Next u) later so_far h all =
    run_over n events texts now s k later so_far h.1 (subst (λ (t : ℕ). AllByRecursion IsEntry (entries_of n (events ++ Next t ∷ later))) h.0 all)
over n events texts now s k e later so_far h all = other_over n events texts now s k e later (λ u is. cc) so_far h all

-- an event that has no entry, among others
pub event_over : (n : ℕ) (events : List Event) (i : ℕ) (e : Event) (texts : List (List ℕ)) (now s k : ℕ) (fault : KeptFault) → i < length events → e ≡ get_or events i e → AreSoFar n (take i events) texts now s k → IsOfEvent now s k e fault
    → IsOfEntries (entries_of n events) fault
event_over n events i e texts now s k kept.TooLarge within is so_far h = λ all.
    let split : events ≡ take i events ++ e ∷ drop (suc i) events =
    sym (take-append-drop i events) ∙ ap (λ (l : List Event). take i events ++ l) (drop-cons events i e within ∙ ap (λ (x : Event). x ∷ drop (suc i) events) (sym is)) in
    over n (take i events) texts now s k e (drop (suc i) events) so_far h (subst (λ (l : List Event). AllByRecursion IsEntry (entries_of n l)) split all)
event_over n events i e texts now s k fault within is so_far h = h

-- memory is wanting
pub of_memory : (entries : List Entry) (fault : KeptFault) → fault ≡ kept.OutOfMemory → IsOfEntries entries fault
of_memory entries fault is = subst (IsOfEntries entries) (sym is) tt

pub event_of_memory : (now s k : ℕ) (e : Event) (fault : KeptFault) → fault ≡ kept.OutOfMemory → IsOfEvent now s k e fault
event_of_memory now s k e fault is = subst (IsOfEvent now s k e) (sym is) tt

-- ---- what an event's fault comes of

none_over : (now s k count : ℕ) (e : Event) → ((u : ℕ) → e ≢ Next u) → count ≡ counted now e → (IsEntry (entry.Event count e) → ⊥) → HasNoEntry now s k e
none_over now s k count e other same none = grind arith

-- its count would be too much
pub count_over : (now s k : ℕ) (e : Event) → ((u : ℕ) → e ≢ Next u) → 2 ^ 32 ≤ counted now e → HasNoEntry now s k e
count_over now s k e other many = none_over now s k (counted now e) e other refl (λ is. omega (arith, many, is.0))

-- it has too many bytes
pub event_fault : (now s k count : ℕ) (e : Event) (fault : EntryFault) → ((u : ℕ) → e ≢ Next u) → count ≡ counted now e → Encodes (entry.Event count e) (Err fault) → IsOfEvent now s k e (kept_fault_of_entry fault)
event_fault now s k count e fault other same h = grind (arith, none_over)

-- the entry of a run is never too long
pub run_fault : (s k : ℕ) (fault : EntryFault) → Encodes (entry.Nexts s k) (Err fault) → kept_fault_of_entry fault ≡ kept.OutOfMemory
run_fault s k fault h = grind arith

-- ---- notes

-- the events alone can't be spelled
pub events_fault : (n : ℕ) (events : List Event) (ns : List NoteParts) (fault : KeptFault) → IsOfEntries (entries_of n events) fault → IsOfEntries (batch_entries n events ns) fault
events_fault n events ns kept.TooLarge h = λ all. h (all_split IsEntry (entries_of n events) (map entry.Note ns) all).0
events_fault n events ns fault h = h

no_note : (ns : List NoteParts) (i : ℕ) (x : NoteParts) → i < length ns → x ≡ get_or ns i x → 2 ^ 32 ≤ length x.bytes → AllByRecursion IsEntry (map entry.Note ns) → ⊥
no_note [] i x within is long all = omega (arith, within)
no_note (y ∷ ns) zero x within is long all = let short : length x.bytes < 2 ^ 32 = subst (λ (z : NoteParts). length z.bytes < 2 ^ 32) (sym is) all.0.1 in omega (arith, short, long)
no_note (y ∷ ns) (suc i) x within is long all = no_note ns i x (omega (arith, within)) is long all.1

-- nor can a note
pub note_fault : (n : ℕ) (events : List Event) (ns : List NoteParts) (i : ℕ) (x : NoteParts) (fault : EntryFault) → i < length ns → x ≡ get_or ns i x → Encodes (entry.Note x) (Err fault) → IsOfEntries (batch_entries n events ns) (kept_fault_of_entry fault)
note_fault n events ns i x spelling.OutOfMemory within is h = tt
note_fault n events ns i x spelling.TooLong within is h = λ all. no_note ns i x within is h (all_split IsEntry (entries_of n events) (map entry.Note ns) all).1
note_fault n events ns i x fault within is h = absurd h

-- ---- a journal's room

entries_stable : (texts : List (List ℕ)) → ((AreEntries texts → ⊥) → ⊥) → AreEntries texts
entries_stable [] h = tt
entries_stable (x ∷ xs) h = (
  ⊎_elim (λ (few : length x < 2 ^ 32). few) (λ (many : 2 ^ 32 ≤ length x). absurd (h (λ all. omega (arith, many, all.0)))) (cases_lt (length x) (2 ^ 32)),
  entries_stable xs (λ none. h (λ all. none all.1)),
)

-- what can't be said not to fit fits
fits_stable : (place : ℕ) (texts : List (List ℕ)) → ((Fits place texts → ⊥) → ⊥) → Fits place texts
fits_stable place texts h = record {
  entries_are = entries_stable texts (λ none. h (λ fits. none fits.entries_are));
  room = ⊎_elim (λ (over : 2 ^ 62 < place + 42 + length (body texts)). absurd (h (λ fits. omega (arith, over, fits.room)))) (λ (few : place + 42 + length (body texts) ≤ 2 ^ 62). few) (cases_lt (2 ^ 62) (place + 42 + length (body texts)));
}

none_spelled : (xs : List Entry) → [] ≡ map entry_bytes xs → xs ≡ []
none_spelled [] is = refl
none_spelled (x ∷ xs) is = cc

-- a batch that was kept had room, one that was too large had none
kept_fits : (place : ℕ) (texts : List (List ℕ)) (r : Result (Unit {0}) JournalFault) (v : Unit {0}) → r ≡ Ok v → ((Fits place texts → ⊥) → r ≡ Err journal.TooLarge) → Fits place texts
kept_fits place texts r v is large = fits_stable place texts (λ none. ok_no_err r v journal.TooLarge is (large none))

large_fault : (place : ℕ) (given : List (Vec ℕ Global)) (fault : JournalFault) (is_ok : given ≡ [] → IsOk {T = Unit {0}} {E = JournalFault} (Err fault)) (large : given ≢ [] → fault ≡ journal.TooLarge → Fits place (contents given) → ⊥) → fault ≡ journal.TooLarge → Fits place (contents given) → ⊥
large_fault place given fault is_ok large is fits = grind (arith, false≢true)

-- never since the device failed
pub never_failed : (entries : List Entry) (fault : KeptFault) → IsOfEntries entries fault → fault ≡ kept.Failed → ⊥
never_failed entries fault h is = subst (λ (f : KeptFault). IsOfEntries entries f) is h

-- the device failed, as the journal tells
pub failed_is : (fault : JournalFault) → IsOfBatch fault → kept_fault_of fault ≡ kept.Failed → fault ≡ journal.Failed
failed_is fault of is = grind arith

module _ {K D V : Type 0} where
  pub has_room : (old : Journaled K D V) (given : List (Vec ℕ Global)) (r : Result (Unit {0}) JournalFault) (v : Unit {0}) → r ≡ Ok v → AreSpelled (entries_waiting old) (contents given)
      → (given ≢ [] → (Fits (end_of (journal_of old)) (contents given) → ⊥) → r ≡ Err journal.TooLarge) → entries_waiting old ≢ [] → HasRoom old
  has_room old given r v is spelled large some = record {
    in_grammar = spelled.in_grammar;
    fits = subst (λ (l : List (List ℕ)). Fits (end_of (journal_of old)) l) spelled.written
        (kept_fits (end_of (journal_of old)) (contents given) r v is (large (λ none. some (none_spelled (entries_waiting old) (sym (ap contents none) ∙ spelled.written)))));
  }

  no_room : (old : Journaled K D V) (texts : List (List ℕ)) (fault : JournalFault) → has_failed (journal_of old) ≡ false → AreSpelled (entries_waiting old) texts → IsOfBatch fault
      → (fault ≡ journal.TooLarge → Fits (end_of (journal_of old)) texts → ⊥) → IsUncommitted old (kept_fault_of fault)
  no_room old texts fault sound spelled of large = grind arith

  -- why the journal didn't keep them
  pub journal_fault : (old : Journaled K D V) (given : List (Vec ℕ Global)) (fault : JournalFault) → has_failed (journal_of old) ≡ false → AreSpelled (entries_waiting old) (contents given) → IsOfBatch fault
      → (given ≡ [] → IsOk {T = Unit {0}} {E = JournalFault} (Err fault)) → (given ≢ [] → fault ≡ journal.TooLarge → Fits (end_of (journal_of old)) (contents given) → ⊥) → IsUncommitted old (kept_fault_of fault)
  journal_fault old given fault sound spelled of is_ok large = no_room old (contents given) fault sound spelled of (large_fault (end_of (journal_of old)) given fault is_ok large)

  -- or why they have no entries
  pub batch_fault : (old : Journaled K D V) (entries : List Entry) (fault : KeptFault) → has_failed (journal_of old) ≡ false → entries ≡ entries_waiting old → IsOfEntries entries fault → IsUncommitted old fault
  batch_fault old entries fault sound same h = grind arith
