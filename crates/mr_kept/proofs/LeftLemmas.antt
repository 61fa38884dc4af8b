-- what a commit leaves has the log of a replica
use Rattle.std.proofs.Common.{arith}
use Rattle.std.proofs.Common.{◌≡◌, ◌⊎◌, inl, inr, ⊎_elim, Ok, ℕ, List, [], ◌∷◌, ◌++◌, sym, ap, subst, ◌∙◌, append_assoc, append-nil, refl}
use Rattle.mr_kept.proofs.Names.{AdmitsAll, AllByRecursion, AreHeaded, AreSpelled, ClauseParts, DeviceOf, Entry, Event, Form, HasLog, HeadParts, IsEntry}
use Rattle.mr_kept.proofs.Names.{IsItsLog, IsKept, IsOf, IsOfSameSetting, IsTrue, Journaled, Keeps, LeavesOneOfTwo, LeavesOnly, NoteParts, Replays, Stands, State, device_of, entries_waiting}
use Rattle.mr_kept.proofs.Names.{entry_bytes, events_of, head_of, issued_of, journal_of, kept_of, map, notes_of, notes_waiting, replica_of, step_log}
use Rattle.mr_kept.proofs.Names.{started, step_setting, take-append-drop, waiting, widened}
use Rattle.mr_kept.proofs.CloseLemmas.{same_setting, setting_on}
use Rattle.mr_kept.proofs.EntryLemmas.{all_append, events_append, events_head, notes_append, notes_head}
use Rattle.mr_kept.proofs.RunLemmas.{batch_notes, batch_tells}
use Rattle.mr_kept.proofs.KeptLemmas.{headed_more, moments_all, stands_now}
use Rattle.mr_kept.proofs.OpenLemmas.{all_setting}

module _ {K : Type 0} (form : Form K) where
  -- what a beginning of the events leads to
  pub record Reaches (s : State K) (events : List Event) (mid : State K) : Type 0 where
    pub admits : AdmitsAll form s events mid
    pub log_is : mid.log ≡ s.log ++ events
    pub setting : IsOfSameSetting s mid

  reached : (s new : State K) (xs ys : List Event) → AdmitsAll form s (xs ++ ys) new → (mid : State K) × Reaches s xs mid × IsOfSameSetting mid new
  reached s new [] ys h = (s, record { admits = refl; log_is = sym (append-nil s.log); setting = same_setting s }, all_setting form s new ys h)
  reached s new (x ∷ xs) ys h =
      let rest = reached h.0 new xs ys h.2 in
      let log = step_log form s h.0 x (Ok h.1.0) h.1.1 in (
        rest.0,
        record {
          admits = (h.0, h.1, rest.1.admits);
          log_is = rest.1.log_is ∙ ap (λ (l : List Event). l ++ xs) log ∙ append_assoc s.log (x ∷ []) xs;
          setting = setting_on s h.0 rest.0 (step_setting form s h.0 x (Ok h.1.0) h.1.1) rest.1.setting;
        },
        rest.2,
      )

  -- a beginning of a replica's log is the log of a replica of the same setting
  pub record Begins (s : State K) (events : List Event) : Type 0 where
    pub replica : State K
    pub is_its_log : IsItsLog form replica
    pub log_is : replica.log ≡ events
    pub setting : IsOfSameSetting replica s

  begins : (s : State K) (xs ys : List Event) → IsItsLog form s → s.log ≡ xs ++ ys → Begins s xs
  begins s xs ys is log =
      let way = reached is.fresh s xs ys (subst (λ (l : List Event). AdmitsAll form is.fresh l s) log is.admits) in
      let t : State K = way.0 in
      let none : is.fresh.log ≡ [] = ap (λ (z : State K). z.log) is.is_fresh.is_empty in
      let log_is : t.log ≡ xs = way.1.log_is ∙ ap (λ (l : List Event). l ++ xs) none in
      let mine : Replays form s.id s.filter s.event_limit xs t = record { fresh = is.fresh; is_fresh = is.is_fresh; admits = way.1.admits } in
      record {
        replica = t;
        is_its_log =
            subst (λ (n : ℕ). Replays form n t.filter t.event_limit t.log t) way.2.id
            (subst (λ (f : List ClauseParts). Replays form s.id f t.event_limit t.log t) way.2.filter
            (subst (λ (n : ℕ). Replays form s.id s.filter n t.log t) way.2.event_limit
            (subst (λ (l : List Event). Replays form s.id s.filter s.event_limit l t) (sym log_is) mine)));
        log_is = log_is;
        setting = way.2;
      }

  -- the head of a replica is that of each of its setting
  same_head : (head : HeadParts) (s t : State K) → IsOfSameSetting t s → IsOf head s → IsOf head t
  same_head head s t same is = grind arith

  pub head_on : (head : HeadParts) (s t : State K) → IsOfSameSetting s t → IsOf head s → IsOf head t
  head_on head s t same is = same_head head s t (record { id = sym same.id; filter = sym same.filter; event_limit = sym same.event_limit }) is

  -- entries that tell a beginning of a replica's log
  has_log : (head : HeadParts) (s : State K) (entries : List Entry) (left : List Event) (file : List ℕ) → IsOf head s → IsItsLog form s → s.log ≡ events_of entries ++ left → AllByRecursion IsEntry entries → AreHeaded head entries
      → Stands (map entry_bytes entries) file → HasLog form file head (notes_of entries)
  has_log head s entries left file of is log are order stands =
      let told : events_of entries ≡ events_of order.behind = ap events_of order.first ∙ events_head head order.behind in
      let from = begins s (events_of entries) left is log in (
        from.replica,
        record {
          entries = order.behind;
          in_grammar = subst (λ (l : List Entry). AllByRecursion IsEntry l) order.first are;
          stands = subst (λ (l : List Entry). Stands (map entry_bytes l) file) order.first stands;
          belong = order.belong;
          head_is = same_head head s from.replica from.setting of;
          log_is = from.log_is ∙ told;
          notes_are = sym (ap notes_of order.first ∙ notes_head head order.behind);
          is_its_log = from.is_its_log;
        },
      )

module _ {K D V : Type 0} {seen : D → List ℕ} {may_leave : D → List ℕ → Type 0} (form : Form K) where
  before_waiting : (entries : List Entry) (j : Journaled K D V) → IsKept seen may_leave entries j → (replica_of j).log ≡ events_of entries ++ waiting j
  before_waiting entries j kept = sym (ap (λ (l : List Event). l ++ waiting j) kept.events ∙ take-append-drop (kept_of j) (replica_of j).log)

  -- what a crash leaves of a journal has the log of a replica
  pub left_now : (entries : List Entry) (j : Journaled K D V) (c : List ℕ) → IsKept seen may_leave entries j → IsItsLog form (replica_of j) → IsOf (head_of j) (replica_of j) → may_leave (device_of (journal_of j)) c → HasLog form c (head_of j) (notes_of entries)
  left_now entries j c kept is of left = has_log form (head_of j) (replica_of j) entries (waiting j) c of is (before_waiting entries j kept) kept.in_grammar kept.order (stands_now entries j kept c left)

  -- and so has what it leaves of a commit
  pub left_by : (entries : List Entry) (j : Journaled K D V) (batch : List (List ℕ)) (c : List ℕ) → IsKept seen may_leave entries j → IsItsLog form (replica_of j) → IsOf (head_of j) (replica_of j)
      → AreSpelled (entries_waiting j) batch → Stands (map entry_bytes entries) c ⊎ Stands (map entry_bytes (entries ++ entries_waiting j)) c
      → HasLog form c (head_of j) (notes_of entries) ⊎ HasLog form c (head_of j) (notes_of entries ++ notes_waiting j)
  left_by entries j batch c kept is of spelled left =
      let more : List Entry = entries_waiting j in
      let before = before_waiting entries j kept in
      let after : (replica_of j).log ≡ events_of (entries ++ more) ++ [] =
      before ∙ ap (λ (l : List Event). events_of entries ++ l) (sym (batch_tells (issued_of j) (waiting j) (notes_waiting j))) ∙ sym (events_append entries more) ∙ sym (append-nil (events_of (entries ++ more))) in
      let order : AreHeaded (head_of j) (entries ++ more) = headed_more (head_of j) (head_of j) entries (issued_of j) (waiting j) (notes_waiting j) refl kept.counted kept.order in
      let told : notes_of (entries ++ more) ≡ notes_of entries ++ notes_waiting j = notes_append entries more ∙ ap (λ (l : List NoteParts). notes_of entries ++ l) (batch_notes (issued_of j) (waiting j) (notes_waiting j)) in
      ⊎_elim
      (λ old. inl (has_log form (head_of j) (replica_of j) entries (waiting j) c of is before kept.in_grammar kept.order old))
      (λ all. inr (subst (λ (ns : List NoteParts). HasLog form c (head_of j) ns) told
      (has_log form (head_of j) (replica_of j) (entries ++ more) [] c of is after (all_append IsEntry entries more kept.in_grammar spelled.in_grammar) order all))) left

module _ {K D V : Type 0} (form : Form K) where
  -- where no note waits, the notes are the same
  pub same_notes : (entries : List Entry) (j : Journaled K D V) (c : List ℕ) → notes_waiting j ≡ [] → HasLog form c (head_of j) (notes_of entries) ⊎ HasLog form c (head_of j) (notes_of entries ++ notes_waiting j)
      → HasLog form c (head_of j) (notes_of entries)
  same_notes entries j c none left =
      ⊎_elim (λ old. old) (λ all. subst (λ (ns : List NoteParts). HasLog form c (head_of j) ns) (ap (λ (l : List NoteParts). notes_of entries ++ l) none ∙ append-nil (notes_of entries)) all) left

-- ---- what a commit leaves

module _ {K D V : Type 0} (form : Form K) (device : DeviceOf D) where
  -- nothing was done: a crash leaves what it left before
  pub leaves_same : ((d : D) (c : List ℕ) → device.left_since d (device.moment d) c → device.may_leave d c) → (j : Journaled K D V) → IsItsLog form (replica_of j) → LeavesOneOfTwo form device j j
  leaves_same only_now j is =
      let d : D = device_of (journal_of j) in
      record {
        any_moment = λ told entries kept. started {old = d} (λ c left. inl (stands_now entries j kept c (only_now d c left)));
        left = λ told entries kept of. started {old = d} (λ c left. inl (left_now form entries j c kept is of (only_now d c left)));
      }

  -- what a crash leaves of the journal's commit of what waits
  pub leaves_batch : (old new : Journaled K D V) (batch : List (List ℕ)) → IsItsLog form (replica_of old) → AreSpelled (entries_waiting old) batch
      → (IsTrue device.is_told → (texts : List (List ℕ)) → Keeps device.seen device.may_leave texts (journal_of old)
      → LeavesOnly device.moment device.left_since (device_of (journal_of old)) (device_of (journal_of new)) (λ c. Stands texts c ⊎ Stands (texts ++ batch) c))
      → LeavesOneOfTwo form device old new
  leaves_batch old new batch is spelled leaves = record {
    any_moment = λ told entries kept. moments_all entries old batch (device_of (journal_of old)) (device_of (journal_of new)) spelled (leaves told (map entry_bytes entries) kept.device);
    left = λ told entries kept of.
        widened {P = λ c. Stands (map entry_bytes entries) c ⊎ Stands (map entry_bytes (entries ++ entries_waiting old)) c} (λ c. HasLog form c (head_of old) (notes_of entries) ⊎ HasLog form c (head_of old) (notes_of entries ++ notes_waiting old))
        (moments_all entries old batch (device_of (journal_of old)) (device_of (journal_of new)) spelled (leaves told (map entry_bytes entries) kept.device))
        (λ c here. left_by form entries old batch c kept is of spelled here);
  }
