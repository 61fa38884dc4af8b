-- the entries of events: Nexts of one stream in a row are one run
use Rattle.std.proofs.Common.{arith}
use Rattle.std.proofs.Common.{zero, suc, ◌≡◌, ◌≢◌, ℕ, ◌+◌, ◌<◌, ◌≤◌, List, [], ◌∷◌, ◌++◌, length, take, take_all, get_or, refl, sym, ap, subst, ◌∙◌, append_assoc, append-nil, add-one}
use Rattle.mr_kept.proofs.Names.{AllBelong, AreSoFar, AreSpelled, Entry, Event, Next, NoteParts, Spells, batch_entries, counted, entries_of, eqb_tells}
use Rattle.mr_kept.proofs.Names.{events_of, issued_after, map, notes_of, replicate, replicate_more, run_of, take_more, with_event, with_next}
use Rattle.mr_entry.specs.declared.entry.Entry.TheVariants as entry
use Rattle.mr_kept.proofs.EntryLemmas.{all_belong, events_append, events_cons, issued_append, notes_append, notes_are, notes_belong, notes_cons, notes_tell, run_issues, spelled_append, spelled_one}

-- ---- what they tell

run_more : (s n : ℕ) → replicate (n + 1) (Next s) ≡ Next s ∷ replicate n (Next s)
run_more s n = ap (λ (m : ℕ). replicate m (Next s)) (add-one n)

next_told : (s : ℕ) (xs : List Entry) → events_of (with_next s xs) ≡ Next s ∷ events_of xs
next_told s xs = grind (arith, eqb_tells, events_cons, run_more)

event_told : (n : ℕ) (e : Event) (xs : List Entry) → events_of (with_event n e xs) ≡ e ∷ events_of xs
event_told n e xs = grind (arith, next_told, events_cons)

-- the entries of events tell these
events_are : (n : ℕ) (xs : List Event) → events_of (entries_of n xs) ≡ xs
events_are n [] = refl
events_are n (x ∷ xs) = event_told n x (entries_of (counted n x) xs) ∙ ap (λ (l : List Event). x ∷ l) (events_are (counted n x) xs)

-- ---- their counts

next_belongs : (n s : ℕ) (xs : List Entry) → AllBelong n xs → AllBelong n (with_next s xs)
next_belongs n s xs h = grind (arith, eqb_tells, run_issues)

event_belongs : (n : ℕ) (e : Event) (xs : List Entry) → AllBelong (counted n e) xs → AllBelong n (with_event n e xs)
event_belongs n e xs h = grind (arith, next_belongs)

-- the entries of events belong where they stand
events_belong : (n : ℕ) (events : List Event) → AllBelong n (entries_of n events)
events_belong n [] = tt
events_belong n (event ∷ events) = event_belongs n event (entries_of (counted n event) events) (events_belong (counted n event) events)

-- they tell no note
next_notes : (s : ℕ) (xs : List Entry) → notes_of (with_next s xs) ≡ notes_of xs
next_notes s xs = grind (arith, eqb_tells, notes_cons)

event_notes : (n : ℕ) (e : Event) (xs : List Entry) → notes_of (with_event n e xs) ≡ notes_of xs
event_notes n e xs = grind (arith, next_notes, notes_cons)

pub no_notes : (n : ℕ) (events : List Event) → notes_of (entries_of n events) ≡ []
no_notes n [] = refl
no_notes n (event ∷ events) = event_notes n event (entries_of (counted n event) events) ∙ no_notes (counted n event) events

-- ---- events and notes

pub batch_tells : (n : ℕ) (events : List Event) (ns : List NoteParts) → events_of (batch_entries n events ns) ≡ events
batch_tells n events ns = grind (arith, events_append, notes_tell, append-nil, events_are)

pub batch_notes : (n : ℕ) (events : List Event) (ns : List NoteParts) → notes_of (batch_entries n events ns) ≡ ns
batch_notes n events ns = notes_append (entries_of n events) (map entry.Note ns) ∙ ap (λ (l : List NoteParts). l ++ notes_of (map entry.Note ns)) (no_notes n events) ∙ notes_are ns

pub batch_belongs : (n : ℕ) (events : List Event) (ns : List NoteParts) → AllBelong n (batch_entries n events ns)
batch_belongs n events ns = all_belong n (entries_of n events) (map entry.Note ns) (events_belong n events) (notes_belong (issued_after n (events_of (entries_of n events))) ns)

-- ---- a run that ends

-- no run of this stream stands first
abbrev pub BeginsNoRun : ℕ → List Entry → Type 0
BeginsNoRun s xs = with_next s xs ≡ entry.Nexts s 1 ∷ xs

other_run : (s t k : ℕ) (xs : List Entry) → t ≢ s → BeginsNoRun s (entry.Nexts t k ∷ xs)
other_run s t k xs other = grind (arith, eqb_tells)

other_next : (s t : ℕ) (xs : List Entry) → t ≢ s → BeginsNoRun s (with_next t xs)
other_next s t xs other = grind (arith, other_run, eqb_tells)

pub one_run : (s k : ℕ) (xs : List Entry) → with_next s (entry.Nexts s k ∷ xs) ≡ entry.Nexts s (k + 1) ∷ xs
one_run s k xs = grind (arith, eqb_tells)

pub run_ends : (n s k : ℕ) (xs : List Event) → BeginsNoRun s (entries_of n xs) → entries_of n (replicate k (Next s) ++ xs) ≡ run_of s k ++ entries_of n xs
run_ends n s zero xs none = refl
run_ends n s (suc zero) xs none = none
run_ends n s (suc (suc k)) xs none =
    ap (with_next s) (run_ends n s (suc k) xs none) ∙ one_run s (suc k) (entries_of n xs) ∙ ap (λ (m : ℕ). entry.Nexts s m ∷ entries_of n xs) (add-one (suc k))

-- the entry of a run of none, which is no entry
pub none_put : (s k : ℕ) (texts : List (List ℕ)) → k ≡ 0 → (list : List Entry) → AreSpelled list texts → AreSpelled (list ++ run_of s k) texts
none_put s k texts none list spelled = subst (λ (l : List Entry). AreSpelled l texts) (sym (ap (λ (m : ℕ). list ++ run_of s m) none ∙ append-nil list)) spelled

some_run : (s k : ℕ) → k ≢ 0 → run_of s k ≡ entry.Nexts s k ∷ []
some_run s k some = grind arith

-- the entry of one of some
pub run_put : (s k : ℕ) (texts after : List (List ℕ)) (text : List ℕ) → k ≢ 0 → Spells (entry.Nexts s k) text → after ≡ texts ++ text ∷ [] → (list : List Entry) → AreSpelled list texts → AreSpelled (list ++ run_of s k) after
run_put s k texts after text some spells after_is list spelled = grind (arith, some_run, spelled_append, spelled_one)

-- ---- one event more

one_more : (n : ℕ) (events : List Event) (e : Event) (now : ℕ) → now ≡ issued_after n events → counted now e ≡ issued_after n (events ++ e ∷ [])
one_more n events e now is = ap (λ (m : ℕ). counted m e) is ∙ sym (issued_append n events (e ∷ []))

-- a Next of the stream of the run
pub run_grows : (n : ℕ) (events : List Event) (texts : List (List ℕ)) (now s t k more : ℕ) → s ≡ t → more ≡ k + 1 → AreSoFar n events texts now s k → AreSoFar n (events ++ Next t ∷ []) texts now s more
run_grows n events texts now s t k more same more_is so_far = rw (← same, more_is) (record {
  list = so_far.list;
  spelled = so_far.spelled;
  all = λ later. ap (entries_of n) (append_assoc events (Next s ∷ []) later) ∙ so_far.all (Next s ∷ later)
      ∙ ap (λ (l : List Event). so_far.list ++ entries_of now l) (sym (append_assoc (replicate k (Next s)) (Next s ∷ []) later) ∙ ap (λ (l : List Event). l ++ later) (replicate_more k (Next s)));
  counted_is = one_more n events (Next s) now so_far.counted_is;
})

-- a Next of another one: the run is ended
pub run_changes : (n : ℕ) (events : List Event) (texts ended : List (List ℕ)) (now after s t k : ℕ) → s ≢ t → AreSoFar n events texts now s k → after ≡ now
    → ((list : List Entry) → AreSpelled list texts → AreSpelled (list ++ run_of s k) ended) → AreSoFar n (events ++ Next t ∷ []) ended after t 1
run_changes n events texts ended now after s t k other so_far same end =
    subst (λ (m : ℕ). AreSoFar n (events ++ Next t ∷ []) ended m t 1) (sym same)
    (record {
      list = so_far.list ++ run_of s k;
      spelled = end so_far.list so_far.spelled;
      all = λ later. ap (entries_of n) (append_assoc events (Next t ∷ []) later) ∙ so_far.all (Next t ∷ later)
          ∙ ap (λ (l : List Entry). so_far.list ++ l) (run_ends now s k (Next t ∷ later) (other_next s t (entries_of now later) (λ is. other (sym is))))
          ∙ sym (append_assoc so_far.list (run_of s k) (entries_of now (Next t ∷ later)));
      counted_is = one_more n events (Next t) now so_far.counted_is;
    })

pub begins_none : (n s : ℕ) (e : Event) (later : List Event) → ((t : ℕ) → e ≢ Next t) → BeginsNoRun s (entries_of n (e ∷ later))
begins_none n s e later other = grind arith

pub an_entry : (n : ℕ) (e : Event) (later : List Event) → ((t : ℕ) → e ≢ Next t) → entries_of n (e ∷ later) ≡ entry.Event (counted n e) e ∷ entries_of (counted n e) later
an_entry n e later other = grind arith

-- another event: the run is ended, and the event is an entry
pub event_more : (n : ℕ) (events : List Event) (texts ended after : List (List ℕ)) (was now s k : ℕ) (e : Event) (count : ℕ) (text : List ℕ) (t m : ℕ) → ((u : ℕ) → e ≢ Next u) → AreSoFar n events texts was s k
    → ((list : List Entry) → AreSpelled list texts → AreSpelled (list ++ run_of s k) ended) → now ≡ was → m ≡ 0 → count ≡ counted now e → Spells (entry.Event count e) text → after ≡ ended ++ text ∷ []
    → AreSoFar n (events ++ e ∷ []) after count t m
event_more n events texts ended after was now s k e count text t m other so_far end same none count_is spells after_is =
    let list : List Entry = so_far.list ++ run_of s k in
    let x : Entry = entry.Event count e in
    let count_then : count ≡ counted was e = count_is ∙ ap (λ (l : ℕ). counted l e) same in
    rw (after_is, none) (record {
      list = list ++ x ∷ [];
      spelled = spelled_append list (x ∷ []) ended (text ∷ []) (end so_far.list so_far.spelled) (spelled_one x text spells.in_grammar spells.written);
      all = λ later. ap (entries_of n) (append_assoc events (e ∷ []) later) ∙ so_far.all (e ∷ later)
          ∙ ap (λ (l : List Entry). so_far.list ++ l) (run_ends was s k (e ∷ later) (begins_none was s e later other))
          ∙ sym (append_assoc so_far.list (run_of s k) (entries_of was (e ∷ later)))
          ∙ ap (λ (l : List Entry). list ++ l) (an_entry was e later other ∙ ap (λ (l : ℕ). entry.Event l e ∷ entries_of l later) (sym count_then))
          ∙ sym (append_assoc list (x ∷ []) (entries_of count later));
      counted_is = count_then ∙ one_more n events e was so_far.counted_is;
    })

-- ---- all of them

pub next_so_far : (n : ℕ) (events : List Event) (i : ℕ) (e : Event) (texts after : List (List ℕ)) (now next s t k m : ℕ) → i < length events → e ≡ get_or events i e → AreSoFar n (take i events) texts now s k
    → ((n : ℕ) (l : List Event) → AreSoFar n l texts now s k → AreSoFar n (l ++ e ∷ []) after next t m) → AreSoFar n (take (i + 1) events) after next t m
next_so_far n events i e texts after now next s t k m within is so_far step = grind (arith, take_more, take)

pub whole_so_far : (n : ℕ) (events : List Event) (i : ℕ) (texts ended : List (List ℕ)) (now s k : ℕ) → length events ≤ i → AreSoFar n (take i events) texts now s k
    → ((list : List Entry) → AreSpelled list texts → AreSpelled (list ++ run_of s k) ended) → AreSpelled (entries_of n events) ended
whole_so_far n events i texts ended now s k whole so_far end =
    let list : entries_of n events ≡ so_far.list ++ run_of s k =
    ap (entries_of n) (sym (append-nil (take i events) ∙ take_all i events whole)) ∙ so_far.all [] ∙ ap (λ (l : List Entry). so_far.list ++ l) (run_ends now s k [] refl ∙ append-nil (run_of s k)) in
    subst (λ (l : List Entry). AreSpelled l ended) (sym list) (end so_far.list so_far.spelled)
