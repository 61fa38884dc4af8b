-- journals that are begun, opened and closed
use Rattle.std.proofs.Common.{Ok, ◌≡◌, ◌⊎◌, inl, inr, ⊎_elim, ℕ, ◌-◌, ◌≤◌, ◌==◌, Bool, true, List, [], ◌∷◌, ◌++◌, length, get_or, take, drop, refl, sym, ap, subst, ◌∙◌, arith, append-nil}
use Rattle.mr_kept.proofs.Names.{AdmitsAll, AllByRecursion, AreClosed, AreInOrder, AreSpelled, Begins, ClauseParts, Entry, Event, Form, Global, HasCut}
use Rattle.mr_kept.proofs.Names.{HeadParts, IsClosedIn, IsCut, IsEntry, IsFull, IsKept, IsOfSameSetting, IsRead, IsReplayed, Journal, Journaled, Keeps}
use Rattle.mr_kept.proofs.Names.{LeavesOnly, MatchBool, NoteParts, Reads, Reopens, Replays, Spells, StandAlike, Stands, State, Takes, Tells, Vec}
use Rattle.mr_kept.proofs.Names.{batch_entries, closers, contents, device_of, drop-append_seam, entries_of, entries_waiting, entry_bytes, eqb-true, events_of}
use Rattle.mr_kept.proofs.Names.{false≢true, head_of, issued_after, issued_of, joined, journal_of, kept_of, le-leb, leb-true, map, map-append, nat_le}
use Rattle.mr_kept.proofs.Names.{nil_from_length, notes_of, notes_waiting, nothing_waits, replica_of, step_setting, take-length, waiting, widened, ◌&&◌}
use Rattle.mr_entry.specs.declared.entry.Entry.TheVariants as entry
use Rattle.mr_kept.specs.Opening.{GoesOn}
use Rattle.mr_kept.proofs.CloseLemmas.{same_setting, setting_on, taken_cuts}
use Rattle.mr_kept.proofs.EntryLemmas.{contents_first, events_head}
use Rattle.mr_kept.proofs.IssuedLemmas.{replayed_issued}
use Rattle.mr_kept.proofs.KeptLemmas.{kept_on, stands_now}

-- ---- replayed

-- the first of the texts is this head, whose text means this filter
pub record IsHeaded (texts rest : List (List ℕ)) (head : HeadParts) (filter : List ClauseParts) : Type 0 where
  pub text : List ℕ
  pub first : texts ≡ text ∷ rest
  pub spells : Spells (entry.Head head) text
  pub reads : Reads head.filter filter

pub is_headed : {head : HeadParts} {filter : List ClauseParts} (entries items : List (Vec ℕ Global)) (x : Vec ℕ Global) (bytes text : List ℕ) → items ≡ entries → 1 ≤ length items → x ≡ get_or items 0 x → bytes ≡ x.items
    → Spells (entry.Head head) bytes → text ≡ head.filter → Reads text filter → IsHeaded (contents entries) (contents (take (length items - 1) (drop 1 items))) head filter
is_headed entries items x bytes text same some is bytes_is spells text_is reads = grind (arith, contents_first)

module _ {K : Type 0} (form : Form K) where
  pub all_setting : (s new : State K) (events : List Event) → AdmitsAll form s events new → IsOfSameSetting s new
  all_setting s new [] h = subst (λ (z : State K). IsOfSameSetting s z) (sym h) (same_setting s)
  all_setting s new (event ∷ events) h = setting_on s h.0 new (step_setting form s h.0 event (Ok h.1.0) h.1.1) (all_setting h.0 new events h.2)

  -- a replica that was replayed is of the id, the limit and the filter that it was replayed with
  pub replayed_setting : (id : ℕ) (filter : List ClauseParts) (event_limit : ℕ) (events : List Event) (s : State K) → Replays form id filter event_limit events s → (s.id ≡ id) × (s.event_limit ≡ event_limit) × (s.filter ≡ filter)
  replayed_setting id filter event_limit events s h = grind (arith, all_setting)

  -- a head and what was gathered behind it
  pub is_replayed : {texts rest : List (List ℕ)} {head : HeadParts} {filter : List ClauseParts} → IsHeaded texts rest head filter → (list : List Entry) (events : List Event) (id limit kept issued : ℕ) (notes : List NoteParts) (s : State K)
      → AreSpelled list rest → AreInOrder list → events_of list ≡ events → issued ≡ issued_after 0 events → notes ≡ notes_of list → kept ≡ length events → id ≡ head.id → limit ≡ head.event_limit → Replays form id filter limit events s
      → s.log ≡ events → IsReplayed form texts head s kept issued notes
  is_replayed {texts} {rest} {head} {filter} headed list events id limit kept issued notes s spelled order told issued_is notes_is kept_is id_is limit_is as_given log =
      let replays = subst (λ (n : ℕ). Replays form n filter head.event_limit events s) id_is (subst (λ (n : ℕ). Replays form id filter n events s) limit_is as_given) in
      let same : s.filter ≡ filter = (replayed_setting head.id filter head.event_limit events s replays).2 in
      record {
        entries = list;
        spelled = record {
          in_grammar = (headed.spells.in_grammar, spelled.in_grammar);
          written = headed.first ∙ ap (λ (t : List ℕ). t ∷ rest) headed.spells.written ∙ ap (λ (l : List (List ℕ)). entry_bytes (entry.Head head) ∷ l) spelled.written;
        };
        order = order;
        filter = subst (λ (f : List ClauseParts). Reads head.filter f) (sym same) headed.reads;
        replays = subst (λ (f : List ClauseParts). Replays form head.id f head.event_limit (events_of list) s) (sym same) (subst (λ (l : List Event). Replays form head.id filter head.event_limit l s) (sym told) replays);
        log_is = log ∙ sym told;
        kept_is = kept_is ∙ ap length (sym told);
        issued_is = issued_is ∙ ap (issued_after 0) (sym told);
        notes_are = notes_is;
      }

-- ---- what is kept

pub closed_on : {K : Type 0} (s new : State K) → new ≡ s → AreClosed s → AreClosed new
closed_on {K} s new same closed = subst (λ (z : State K). AreClosed z) (sym same) closed

both_hold : (a b : Bool) → a ≡ true → b ≡ true → (a && b) ≡ true
both_hold a b h k = grind arith

both_held : (a b : Bool) → (a && b) ≡ true → (a ≡ true) × (b ≡ true)
both_held a b h = grind (arith, false≢true)

module _ {K D V : Type 0} where
  -- all is kept
  pub none_waits : (j : Journaled K D V) → length (replica_of j).log ≡ kept_of j → notes_waiting j ≡ [] → nothing_waits j ≡ true
  none_waits j is none = both_hold (nat_le (length (replica_of j).log) (kept_of j)) _ (le-leb (length (replica_of j).log) (kept_of j) (omega (arith, is))) (ap (λ (l : List NoteParts). length l == 0) none)

  -- no note waits
  pub no_note_waits : (j : Journaled K D V) → nothing_waits j ≡ true → notes_waiting j ≡ []
  no_note_waits j none = nil_from_length (notes_waiting j) (eqb-true (length (notes_waiting j)) 0 (both_held (nat_le (length (replica_of j).log) (kept_of j)) _ none).1)

  -- then what waits are the events
  no_note_more : (j : Journaled K D V) → notes_waiting j ≡ [] → entries_waiting j ≡ entries_of (issued_of j) (waiting j)
  no_note_more j none = ap (batch_entries (issued_of j) (waiting j)) none ∙ append-nil (entries_of (issued_of j) (waiting j))

module _ {K D V : Type 0} {seen : D → List ℕ} {may_leave : D → List ℕ → Type 0} where
  all_kept : (entries : List Entry) (j : Journaled K D V) → IsKept seen may_leave entries j → nothing_waits j ≡ true → kept_of j ≡ length (replica_of j).log
  all_kept entries j h none = omega (arith, leb-true (kept_of j) (length (replica_of j).log) h.within, leb-true (length (replica_of j).log) (kept_of j) (both_held (nat_le (length (replica_of j).log) (kept_of j)) _ none).0)

  -- what was replayed of a journal's entries
  pub kept_read : (form : Form K) (texts : List (List ℕ)) (notes : List NoteParts) (j : Journaled K D V) (is : IsReplayed form texts (head_of j) (replica_of j) (kept_of j) (issued_of j) notes) → Keeps seen may_leave texts (journal_of j)
      → IsKept seen may_leave (entry.Head (head_of j) ∷ is.entries) j
  kept_read form texts notes j is keeps = grind (arith, events_head, le-leb, take, take-length)

  -- a journal that is begun has its head
  pub kept_begun : (head : HeadParts) (j : Journaled K D V) (texts batch : List (List ℕ)) → texts ≡ [] → IsEntry (entry.Head head) → batch ≡ entry_bytes (entry.Head head) ∷ [] → Keeps seen may_leave (texts ++ batch) (journal_of j)
      → (replica_of j).log ≡ [] → kept_of j ≡ 0 → issued_of j ≡ 0 → head_of j ≡ head → IsKept seen may_leave (entry.Head (head_of j) ∷ []) j
  kept_begun head j texts batch none is batch_is keeps log kept issued same = grind (arith, le-leb, take)

  -- ---- what closes

  -- before what closes is kept
  pub kept_mid : (entries : List Entry) (old : Journaled K D V) (s : State K) (all : Bool) → IsKept seen may_leave entries old → Takes (closers (replica_of old)) all (replica_of old) s → IsKept seen may_leave entries (record old { replica = s })
  kept_mid entries old s all h takes = kept_on entries old (record old { replica = s }) takes.more h refl refl refl refl takes.log_is

  -- that is what waits, where nothing waited
  closers_wait : (entries : List Entry) (old : Journaled K D V) (s : State K) (all : Bool) → IsKept seen may_leave entries old → nothing_waits old ≡ true → (takes : Takes (closers (replica_of old)) all (replica_of old) s)
      → entries_waiting (record old { replica = s }) ≡ entries_of (issued_of old) takes.more
  closers_wait entries old s all h none takes =
      let log : List Event = (replica_of old).log in
      let waits : drop (kept_of old) s.log ≡ takes.more = ap (λ (n : ℕ). drop n s.log) (all_kept entries old h none) ∙ ap (drop (length log)) takes.log_is ∙ drop-append_seam log takes.more in
      no_note_more (record old { replica = s }) (no_note_waits old none) ∙ ap (entries_of (issued_of old)) waits

  -- and once it is
  pub closed_in : (entries : List Entry) (old : Journaled K D V) (s : State K) (new : Journaled K D V) (all : Bool) → IsKept seen may_leave entries old → nothing_waits old ≡ true → Takes (closers (replica_of old)) all (replica_of old) s
      → replica_of new ≡ s → IsKept seen may_leave (entries ++ entries_waiting (record old { replica = s })) new → IsClosedIn seen may_leave entries all old new
  closed_in entries old s new all h none takes replica after =
      let on = subst (λ (s : State K). IsOfSameSetting (replica_of old) s) (sym replica) takes.setting in
      record {
        closed = record {
          more = takes.more;
          left = takes.left;
          first = takes.first;
          log_is = ap (λ (s : State K). s.log) replica ∙ takes.log_is;
          setting = on;
          rest = subst (λ (s : State K). MatchBool all (takes.left ≡ []) (IsFull s)) (sym replica) takes.rest;
        };
        kept = subst (λ (l : List Entry). IsKept seen may_leave (entries ++ l) new) (closers_wait entries old s all h none takes) after;
      }

  -- ---- what a crash leaves

  pub cut_now : (entries : List Entry) (j : Journaled K D V) → IsKept seen may_leave entries j → (c : List ℕ) → may_leave (device_of (journal_of j)) c → HasCut (map entry_bytes entries) c
  cut_now entries j kept c left = record { issued = 0; events = []; cuts = tt; stands = subst (λ (l : List (List ℕ)). Stands l c) (sym (append-nil (map entry_bytes entries))) (stands_now entries j kept c left) }

-- these entries, or those and what closes behind them
pub cut_left : (entries : List Entry) (issued : ℕ) (events : List Event) (c : List ℕ) → AllByRecursion IsCut events → Stands (map entry_bytes entries) c ⊎ Stands (map entry_bytes (entries ++ entries_of issued events)) c → HasCut (map entry_bytes entries) c
cut_left entries issued events c cuts here = ⊎_elim
    (λ now. record { issued = 0; events = []; cuts = tt; stands = subst (λ (l : List (List ℕ)). Stands l c) (sym (append-nil (map entry_bytes entries))) now })
    (λ all. record { issued = issued; events = events; cuts = cuts; stands = subst (λ (l : List (List ℕ)). Stands l c) (map-append entry_bytes entries (entries_of issued events)) all }) here

pub goes_on : (file c : List ℕ) → StandAlike file c → GoesOn file c
goes_on file c same = (same.0, same.1, record { issued = 0; events = []; cuts = tt; stands = subst (λ (l : List (List ℕ)). Stands l c) (sym (append-nil same.0)) same.2 })

module _ {K D V : Type 0} {seen : D → List ℕ} {may_leave : D → List ℕ → Type 0} {moment : D → ℕ} {left_since : D → ℕ → List ℕ → Type 0} where
  -- over the commit of what closes
  pub moments_close : (entries : List Entry) (old : Journaled K D V) (s : State K) (all : Bool) (before after : D) → IsKept seen may_leave entries old → nothing_waits old ≡ true → Takes (closers (replica_of old)) all (replica_of old) s
      → LeavesOnly moment left_since before after (λ c. Stands (map entry_bytes entries) c ⊎ Stands (map entry_bytes (entries ++ entries_waiting (record old { replica = s }))) c)
      → LeavesOnly moment left_since before after (HasCut (map entry_bytes entries))
  moments_close entries old s all before after h none takes leaves =
      let mid : Journaled K D V = record old { replica = s } in
      widened {P = λ c. Stands (map entry_bytes entries) c ⊎ Stands (map entry_bytes (entries ++ entries_waiting mid)) c} (HasCut (map entry_bytes entries)) leaves
      (λ c here. cut_left entries (issued_of old) takes.more c (taken_cuts (replica_of old) s all takes)
      (subst (λ (l : List Entry). Stands (map entry_bytes entries) c ⊎ Stands (map entry_bytes (entries ++ l)) c) (closers_wait entries old s all h none takes) here))

-- ---- begun

pub as_going : {A B C : Type 0} → (B → C) → A ⊎ B → A ⊎ C
as_going from here = ⊎_elim (λ a. inl a) (λ b. inr (from b)) here

module _ {D : Type 0} {moment : D → ℕ} {left_since : D → ℕ → List ℕ → Type 0} (may_leave : D → List ℕ → Type 0) (file : List ℕ) (before : D) where
  -- over an opening of the journal alone
  pub moments_begun : (after : D) → LeavesOnly moment left_since before after (λ c. may_leave before c ⊎ StandAlike file c) → LeavesOnly moment left_since before after (λ c. may_leave before c ⊎ (StandAlike file c ⊎ Begins file c))
  moments_begun after leaves = grind (arith, widened, as_going)

  -- and over the commit of a head
  pub moments_head : (mid after : D) (texts batch : List (List ℕ)) (head : HeadParts) → texts ≡ [] → batch ≡ entry_bytes (entry.Head head) ∷ [] → Stands texts file → LeavesOnly moment left_since before mid (λ c. may_leave before c ⊎ StandAlike file c)
      → LeavesOnly moment left_since mid after (λ c. Stands texts c ⊎ Stands (texts ++ batch) c) → LeavesOnly moment left_since before after (λ c. may_leave before c ⊎ (StandAlike file c ⊎ Begins file c))
  moments_head mid after texts batch head none batch_is stood first second =
      joined (moments_begun mid first)
      (widened {P = λ c. Stands texts c ⊎ Stands (texts ++ batch) c} (λ c. may_leave before c ⊎ (StandAlike file c ⊎ Begins file c)) second (λ c left. inr (⊎_elim
      (λ now. inl (texts, stood, now))
      (λ all. inr (head, subst (λ (l : List (List ℕ)). Stands l file) none stood, subst (λ (l : List (List ℕ)). Stands l c) (ap (λ (l : List (List ℕ)). l ++ batch) none ∙ batch_is) all)) left)))

-- no entries have no texts
pub empty_texts : (l : List (Vec ℕ Global)) (b : Bool) → b ≡ (length l == 0) → b ≡ true → contents l ≡ []
empty_texts l b is so = ap contents (nil_from_length l (eqb-true (length l) 0 (sym is ∙ so)))

-- the entries from before, and behind them what closes
pub goes_cut : (file c : List ℕ) (texts : List (List ℕ)) (entries : List Entry) → texts ≡ map entry_bytes entries → Stands texts file → HasCut (map entry_bytes entries) c → GoesOn file c
goes_cut file c texts entries is stood cut = (map entry_bytes entries, subst (λ (l : List (List ℕ)). Stands l file) is stood, cut)

-- ---- opened

-- over an opening of the journal alone
pub moments_alike : {D : Type 0} {moment : D → ℕ} {left_since : D → ℕ → List ℕ → Type 0} (may_leave : D → List ℕ → Type 0) (file : List ℕ) (before after : D) → LeavesOnly moment left_since before after (λ c. may_leave before c ⊎ StandAlike file c)
    → LeavesOnly moment left_since before after (λ c. may_leave before c ⊎ GoesOn file c)
moments_alike may_leave file before after leaves = widened {P = λ c. may_leave before c ⊎ StandAlike file c} (λ c. may_leave before c ⊎ GoesOn file c) leaves (λ c here. as_going (goes_on file c) here)

module _ {K D V : Type 0} {form : Form K} {seen : D → List ℕ} {may_leave : D → List ℕ → Type 0} {texts : List (List ℕ)} {notes : List NoteParts} {mid : Journaled K D V} (read : IsRead form seen may_leave texts notes mid) (file : List ℕ) (stood : Stands texts file) where
  pub reopens : (all : Bool) (new : Journaled K D V) → head_of new ≡ head_of mid → IsClosedIn seen may_leave (entry.Head (head_of mid) ∷ read.replayed.entries) all mid new → Reopens form seen may_leave file all notes new
  reopens all new same closed =
      let is = read.replayed in
      let s : State K = replica_of mid in
      let head : HeadParts = head_of mid in
      let setting = replayed_setting form head.id s.filter head.event_limit (events_of is.entries) s is.replays in
      let text : Stands (map entry_bytes (entry.Head head ∷ is.entries)) file = subst (λ (l : List (List ℕ)). Stands l file) is.spelled.written stood in
      let tells : Tells head s = record { id = setting.0; filter = is.filter; event_limit = setting.1 } in
      record {
        entries = is.entries;
        stood = subst (λ (h : HeadParts). Stands (map entry_bytes (entry.Head h ∷ is.entries)) file) (sym same) text;
        order = is.order;
        replica = s;
        tells = subst (λ (h : HeadParts). Tells h s) (sym same) tells;
        replays = subst (λ (n : ℕ). Replays form n s.filter s.event_limit (events_of is.entries) s) (sym setting.0) (subst (λ (n : ℕ). Replays form head.id s.filter n (events_of is.entries) s) (sym setting.1) is.replays);
        issued_is = replayed_issued form head.id s.filter head.event_limit (events_of is.entries) s is.replays;
        notes_are = is.notes_are;
        closed = closed.closed;
        kept = subst (λ (h : HeadParts). IsKept seen may_leave ((entry.Head h ∷ is.entries) ++ entries_of (issued_after 0 (events_of is.entries)) closed.closed.more) new) (sym same)
            (subst (λ (n : ℕ). IsKept seen may_leave ((entry.Head head ∷ is.entries) ++ entries_of n closed.closed.more) new) is.issued_is closed.kept);
      }

  -- over an opening and the commit of what closes
  pub moments_open : {moment : D → ℕ} {left_since : D → ℕ → List ℕ → Type 0} (journal : Journal D) (before after : D) → journal_of mid ≡ journal → LeavesOnly moment left_since before (device_of journal) (λ c. may_leave before c ⊎ StandAlike file c)
      → LeavesOnly moment left_since (device_of (journal_of mid)) after (HasCut (map entry_bytes (entry.Head (head_of mid) ∷ read.replayed.entries))) → LeavesOnly moment left_since before after (λ c. may_leave before c ⊎ GoesOn file c)
  moments_open {moment} {left_since} journal before after same first second =
      let entries : List Entry = entry.Head (head_of mid) ∷ read.replayed.entries in
      let on : LeavesOnly moment left_since (device_of journal) after (HasCut (map entry_bytes entries)) = subst (λ (j : Journal D). LeavesOnly moment left_since (device_of j) after (HasCut (map entry_bytes entries))) same second in
      joined (moments_alike may_leave file before (device_of journal) first)
      (widened {P = HasCut (map entry_bytes entries)} (λ c. may_leave before c ⊎ GoesOn file c) on (λ c cut. inr (goes_cut file c texts entries read.replayed.spelled.written stood cut)))
