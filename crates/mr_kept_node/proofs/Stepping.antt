-- A machine that goes on, and one that has stopped.
use Rattle.std.proofs.Common.{◌≡◌, ◌≤◌, ◌==◌, ◌&&◌, ℕ, Bool, true, false, List, [], ◌∷◌, ◌++◌, length, Option, Some, None, Result, Ok, Err, refl, sym, ap, subst, ◌∙◌}
use Rattle.mr_kept_node.proofs.Names.{Declined, DeviceOf, Entry, Event, Form, IsKept, Journaled, Kept, KeptFault, KeptMachine, NoteParts, OutOfMemory, Passed, Refusal}
use Rattle.mr_kept_node.proofs.Names.{Replays, Reply, Sender, State, Stopped, Takes, TakesBy, admitted_of, append-nil, drop_all, entries_with, events_append}
use Rattle.mr_kept_node.proofs.Names.{events_of, false≢true, issued_of, kept_of, leb-true, log_of, nat_le, no_note_waits, notes_append, notes_of}
use Rattle.mr_kept_node.proofs.Names.{notes_waiting, nothing_waits, replica_of, step_log, take_all, waiting}
use Rattle.std.specs.List.{AllByRecursion}
use Rattle.mr_replica.specs.Growing.{admitted}
use Rattle.mr_kept.proofs.RunLemmas.{batch_notes, batch_tells}
use Rattle.mr_kept_node.specs.inner.Telling.{turned_same}

-- a letter, who sent it, and its answer
abbrev pub passed : Sender → Event → Result Reply Refusal → Passed
passed sender letter answer = record { sender = sender; letter = letter; answer = answer }

-- ---- exchanges cut in two

pub replays_cut : {M : Type 0} (steps : M → Event → Result Reply Refusal → M → Type 0) (s t : M) (xs ys : List Passed) → Replays steps s (xs ++ ys) t → (mid : M) × Replays steps s xs mid × Replays steps mid ys t
replays_cut steps s t [] ys h = (s, refl, h)
replays_cut steps s t (x ∷ xs) ys h = let rest = replays_cut steps h.0 t xs ys h.2 in (rest.0, (h.0, h.1, rest.1), rest.2)

first_holds : (a b : Bool) → (a && b) ≡ true → a ≡ true
first_holds true b h = refl
first_holds false b h = absurd (false≢true h)

module _ {K D V : Type 0} where
  -- ---- where nothing waits

  all_there : (j : Journaled K D V) → nothing_waits j ≡ true → length (replica_of j).log ≤ kept_of j
  all_there j none = leb-true (length (replica_of j).log) (kept_of j) (first_holds (nat_le (length (replica_of j).log) (kept_of j)) _ none)

  none_waiting : (j : Journaled K D V) → nothing_waits j ≡ true → waiting j ≡ []
  none_waiting j none = drop_all (kept_of j) (replica_of j).log (all_there j none)

  -- the letter alone is kept
  pub letter_told : (j : Journaled K D V) (letter : Event) → nothing_waits j ≡ true → events_of (entries_with j letter) ≡ letter ∷ []
  letter_told j letter none = batch_tells (issued_of j) (waiting j ++ letter ∷ []) (notes_waiting j) ∙ ap (λ (l : List Event). l ++ letter ∷ []) (none_waiting j none)

  pub no_note_told : (j : Journaled K D V) (letter : Event) → nothing_waits j ≡ true → notes_of (entries_with j letter) ≡ []
  no_note_told j letter none = batch_notes (issued_of j) (waiting j ++ letter ∷ []) (notes_waiting j) ∙ no_note_waits j none

  -- behind entries that are kept
  pub events_with : (entries : List Entry) (j : Journaled K D V) (letter : Event) → nothing_waits j ≡ true → events_of (entries ++ entries_with j letter) ≡ events_of entries ++ letter ∷ []
  events_with entries j letter none = events_append entries (entries_with j letter) ∙ ap (λ (l : List Event). events_of entries ++ l) (letter_told j letter none)

  pub notes_with : (entries : List Entry) (j : Journaled K D V) (letter : Event) → nothing_waits j ≡ true → notes_of (entries ++ entries_with j letter) ≡ notes_of entries
  notes_with entries j letter none =
      notes_append entries (entries_with j letter) ∙ ap (λ (l : List NoteParts). notes_of entries ++ l) (no_note_told j letter none) ∙ append-nil (notes_of entries)

  pub all_told : {seen : D → List ℕ} {may_leave : D → List ℕ → Type 0} (entries : List Entry) (j : Journaled K D V) → IsKept seen may_leave entries j → nothing_waits j ≡ true → events_of entries ≡ (replica_of j).log
  all_told entries j kept none = kept.events ∙ take_all (kept_of j) (replica_of j).log (all_there j none)

  -- ---- a machine that goes on

  -- it has no fault, and all is kept and told
  pub record Ready (m : KeptMachine K D V) : Type 0 where
    pub goes_on : m.fault ≡ None
    pub none_waits : nothing_waits m.journaled ≡ true
    pub told : m.told ≡ length (replica_of m.journaled).feed

module _ {K D V : Type 0} (form : Form K) (device : DeviceOf D) where
  pub ready_kept : (m t : KeptMachine K D V) (letter : Event) (reply : Reply) → Kept form device m letter reply t → Ready t
  ready_kept m t letter reply h = record { goes_on = h.goes_on; none_waits = h.none_waits; told = h.told }

  pub kept_log : (m t : KeptMachine K D V) (letter : Event) (reply : Reply) → Kept form device m letter reply t → log_of t ≡ log_of m ++ letter ∷ []
  kept_log m t letter reply h = step_log form (replica_of m.journaled) (replica_of t.journaled) letter (Ok reply) h.steps

  pub declined_same : (m t : KeptMachine K D V) (letter : Event) (e : Refusal) → Declined form device m letter e t → replica_of t.journaled ≡ replica_of m.journaled
  declined_same m t letter e h = turned_same form m.journaled t.journaled letter h.fault h.turned

  pub ready_declined : (m t : KeptMachine K D V) (letter : Event) (e : Refusal) → Ready m → Declined form device m letter e t → Ready t
  ready_declined m t letter e ready h =
      let same = declined_same m t letter e h in
      let old : Journaled K D V = m.journaled in
      let new : Journaled K D V = t.journaled in
      record {
        goes_on = h.goes_on;
        none_waits =
            ap (λ (s : State K). nat_le (length s.log) (kept_of new) && (length (notes_waiting new) == 0)) same
            ∙ ap (λ (n : ℕ). nat_le (length (replica_of old).log) n && (length (notes_waiting new) == 0)) h.turned.journal.kept
            ∙ ap (λ (ns : List NoteParts). nat_le (length (replica_of old).log) (kept_of old) && (length ns == 0)) h.turned.journal.notes
            ∙ ready.none_waits;
        told = h.told ∙ ready.told ∙ ap (λ (s : State K). length s.feed) (sym same);
      }

  pub stopped_log : (m t : KeptMachine K D V) (letter : Event) → Stopped form device m letter t → log_of t ≡ log_of m ++ letter ∷ []
  stopped_log m t letter h =
      ap (λ (s : State K). s.log) h.replica ∙ step_log form (replica_of m.journaled) (replica_of h.asked_of) letter (Ok h.reply) h.asked.steps

  -- ---- a machine that has stopped

  -- nothing changes any more, and each letter is refused
  pub record Rests (m : KeptMachine K D V) (xs : List Passed) (n : KeptMachine K D V) : Type 0 where
    pub same : n ≡ m
    pub none_admitted : admitted_of xs ≡ []
    pub refused : AllByRecursion (λ (x : Passed). x.answer ≡ Err OutOfMemory) xs

  pub rests : (m n : KeptMachine K D V) (xs : List Passed) (fault : KeptFault) → m.fault ≡ Some fault → Replays (Takes form device) m xs n → Rests m xs n
  rests m n [] fault is h = record { same = h; none_admitted = refl; refused = tt }
  rests m n (x ∷ xs) fault is h =
      let one = subst (λ (o : Option KeptFault). TakesBy form device o m x.letter x.answer h.0) is h.1 in
      let rest = rests h.0 n xs fault (ap (λ (z : KeptMachine K D V). z.fault) one.1 ∙ is) h.2 in
      record {
        same = rest.same ∙ one.1;
        none_admitted = ap (λ (a : Result Reply Refusal). admitted x.letter a ++ admitted_of xs) one.0 ∙ rest.none_admitted;
        refused = (one.0, rest.refused);
      }
