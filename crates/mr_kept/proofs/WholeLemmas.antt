-- a journal that a replica left is not refused, and gives a replica that is alike
use Rattle.std.proofs.Common.{◌≡◌, ◌⊎◌, inl, inr, ⊎_elim, ℕ, ◌+◌, ◌≤◌, Bool, List, [], ◌∷◌, ◌++◌, length, Option, Result, Ok, Err, refl, sym, ap, subst, ◌∙◌, arith, append-nil}
use Rattle.mr_kept.proofs.Names.{AdmitsAll, AllBelong, AllByRecursion, Belongs, ClauseParts, ComesBack, Entry, EntryFault, Event, Form, HasLog, HasLogOf}
use Rattle.mr_kept.proofs.Names.{HeadParts, IsBehindHead, IsEntry, IsFilter, IsItsLog, IsLonger, IsNoFilter, IsNoHead, IsNoReplay, IsOf, IsOfMachine}
use Rattle.mr_kept.proofs.Names.{IsOfOther, IsOfPlace, IsOpenFault, IsOutOfOrder, IsRead, IsRefused, IsReplayed, IsUnread, IsWrong, Journal, Journaled}
use Rattle.mr_kept.proofs.Names.{LeavesOnly, MAX_EVENTS, NoteParts, OpenFault, Reads, Reopens, Replays, Spells, StandAlike, Stands, State, StopsAt}
use Rattle.mr_kept.proofs.Names.{append_cancel_left, device_of, entry_bytes, events_of, events_of_entry, head_of, issued_after, issued_of, joined, journal_of}
use Rattle.mr_kept.proofs.Names.{kept_of, length-append, map, notes_of, replica_of, widened}
use Rattle.mr_filter.proofs.UniqueLemmas.{Reads-fault, Reads-unique}
use Rattle.mr_forms.specs.ByMeaning.{IsByMeaning}
use Rattle.mr_journal.proofs.Unique.{not_refused, one_list}
use Rattle.mr_entry.specs.Decoding.{decoded}
use Rattle.mr_entry.specs.declared.entry.Entry.TheVariants as entry
use Rattle.mr_entry.proofs.CodecLaws.{begins_no_other, is_found}
use Rattle.mr_entry.proofs.EntryLaws.{entry_codec}
use Rattle.mr_replica.specs.declared.replica.replay.ReplayFault.TheVariants as replay
use Rattle.mr_replica.proofs.Alike.{alike_fresh, alike_replays, alike_stop}
use Rattle.mr_kept.specs.declared.fault.OpenFault.TheVariants as fault
use Rattle.mr_kept.proofs.EntryLemmas.{all_split, events_append, events_cons, issued_cons}
use Rattle.mr_kept.proofs.LogLemmas.{replayed_few}
use Rattle.mr_kept.proofs.OpenLemmas.{as_going, replayed_setting}

-- ---- one entry

no_fault : (e : Entry) (text : List ℕ) (why : EntryFault) → Spells e text → decoded text ≡ Err why → ⊥
no_fault e text why s is = let both : ◌≡◌ {A = Result (Entry × ℕ) EntryFault} (Ok (e, length text)) (Err why) = sym (is_found entry_codec text text [] e s (sym (append-nil text))) ∙ is in cc

one_entry : (e f : Entry) (text : List ℕ) → Spells e text → Spells f text → e ≡ f
one_entry e f text s t = (begins_no_other entry_codec e f text text [] [] s t refl).1

same_bytes : (e f : Entry) → IsEntry e → IsEntry f → entry_bytes e ≡ entry_bytes f → e ≡ f
same_bytes e f s t is = one_entry e f (entry_bytes e) (record { in_grammar = s; written = refl }) (record { in_grammar = t; written = is })

not_longer : (e : Entry) (text : List ℕ) → Spells e text → IsLonger text → ⊥
not_longer e text s longer =
    let same : text ≡ longer.front = (begins_no_other entry_codec e longer.found text longer.front [] longer.left s longer.spells (append-nil text ∙ longer.text_is)).0 in
    longer.some (append_cancel_left longer.front longer.left [] (sym longer.text_is ∙ same ∙ sym (append-nil longer.front)))

unread_memory : (place : ℕ) (e : Entry) (text : List ℕ) (why : OpenFault) → Spells e text → IsUnread place text why → why ≡ fault.OutOfMemory
unread_memory place e text fault.OutOfMemory s h = refl
unread_memory place e text (fault.BadEntry at why) s h = absurd (no_fault e text why s h.1)
unread_memory place e text (fault.Misplaced at) s h = absurd (not_longer e text s h.1)
unread_memory place e text why s h = absurd h

head_no_place : (issued : ℕ) (e : Entry) (head : HeadParts) → Belongs issued e → e ≡ entry.Head head → ⊥
head_no_place issued e head h is = let no : Belongs issued (entry.Head head) = subst (λ (x : Entry). Belongs issued x) is h in no

order_memory : (place issued count : ℕ) (e : Entry) (why : OpenFault) → Belongs issued e → count + length (events_of_entry e) ≤ MAX_EVENTS + 1 → IsOutOfOrder place issued count e why → why ≡ fault.OutOfMemory
order_memory place issued count e why b few h = grind (arith, head_no_place)

wrong_memory : (place issued count : ℕ) (e : Entry) (text : List ℕ) (why : OpenFault) → Spells e text → Belongs issued e → count + length (events_of_entry e) ≤ MAX_EVENTS + 1 → IsWrong place issued count text why → why ≡ fault.OutOfMemory
wrong_memory place issued count e text why s b few h = grind (arith, unread_memory, one_entry, order_memory)

-- ---- entries

same_entries : (xs ys : List Entry) → AllByRecursion IsEntry xs → AllByRecursion IsEntry ys → map entry_bytes xs ≡ map entry_bytes ys → xs ≡ ys
same_entries [] [] a b is = refl
same_entries [] (y ∷ ys) a b is = absurd cc
same_entries (x ∷ xs) [] a b is = absurd cc
same_entries (x ∷ xs) (y ∷ ys) a b is =
    let one : entry_bytes x ≡ entry_bytes y = cc in
    let others : map entry_bytes xs ≡ map entry_bytes ys = cc in
    ap (λ (z : Entry). z ∷ xs) (same_bytes x y a.0 b.0 one) ∙ ap (λ (l : List Entry). y ∷ l) (same_entries xs ys a.1 b.1 others)

-- the entry that stands where a text of theirs does
record StandsAt (before entries : List Entry) (text : List ℕ) : Type 0 where
  here : Entry
  behind : List Entry
  all : entries ≡ before ++ here ∷ behind
  spells : Spells here text

stands_at : (before entries : List Entry) (text : List ℕ) (left : List (List ℕ)) → AllByRecursion IsEntry before → AllByRecursion IsEntry entries → map entry_bytes entries ≡ map entry_bytes before ++ text ∷ left → StandsAt before entries text
stands_at [] [] text left a b is = absurd cc
stands_at [] (y ∷ ys) text left a b is = let one : text ≡ entry_bytes y = cc in record { here = y; behind = ys; all = refl; spells = record { in_grammar = b.0; written = one } }
stands_at (x ∷ xs) [] text left a b is = absurd cc
stands_at (x ∷ xs) (y ∷ ys) text left a b is =
    let one : entry_bytes y ≡ entry_bytes x = cc in
    let others : map entry_bytes ys ≡ map entry_bytes xs ++ text ∷ left = cc in
    let so = stands_at xs ys text left a.1 b.1 others in
    record {
      here = so.here;
      behind = so.behind;
      all = ap (λ (z : Entry). z ∷ ys) (same_bytes y x b.0 a.0 one) ∙ ap (λ (l : List Entry). x ∷ l) so.all;
      spells = so.spells;
    }

belongs_at : (n : ℕ) (before : List Entry) (e : Entry) (behind : List Entry) → AllBelong n (before ++ e ∷ behind) → Belongs (issued_after n (events_of before)) e
belongs_at n [] e behind h = h.0
belongs_at n (x ∷ xs) e behind h =
    subst (λ (m : ℕ). Belongs m e) (sym (issued_cons n x xs)) (belongs_at (issued_after n (events_of_entry x)) xs e behind h.1)

few_at : (before : List Entry) (e : Entry) (behind : List Entry) → length (events_of before) + length (events_of_entry e) ≤ length (events_of (before ++ e ∷ behind))
few_at before e behind = grind (arith, events_append, length-append, events_cons)

-- none of them is wrong
stop_memory : (entries : List Entry) (why : OpenFault) → AllByRecursion IsEntry entries → AllBelong 0 entries → length (events_of entries) ≤ MAX_EVENTS + 1 → StopsAt (map entry_bytes entries) why → why ≡ fault.OutOfMemory
stop_memory entries why are belong few stop =
    let found = stands_at stop.before entries stop.text stop.left stop.in_grammar are stop.all in
    let belongs = belongs_at 0 stop.before found.here found.behind (subst (λ (l : List Entry). AllBelong 0 l) found.all belong) in
    let most : length (events_of (stop.before ++ found.here ∷ found.behind)) ≤ MAX_EVENTS + 1 = subst (λ (l : List Entry). length (events_of l) ≤ MAX_EVENTS + 1) found.all few in
    let less = few_at stop.before found.here found.behind in
    wrong_memory (length stop.before + 1) (issued_after 0 (events_of stop.before)) (length (events_of stop.before)) found.here stop.text why found.spells belongs (omega (arith, most, less)) stop.wrong

-- ---- what is told of a replica's journal

machine : (why : OpenFault) → why ≡ fault.OutOfMemory → IsOfMachine why
machine why is = subst (λ (f : OpenFault). IsOfMachine f) (sym is) tt

filter_machine : (text : List ℕ) (filter : List ClauseParts) (why : OpenFault) → Reads text filter → IsFilter filter → IsNoFilter text why → IsOfMachine why
filter_machine text filter why reads is h = grind (arith, Reads-fault)

other_place : (head : HeadParts) (mark : List ℕ) (birth : Option (List ℕ)) (why : OpenFault) → IsOfPlace head mark birth → IsOfOther head mark birth why → ⊥
other_place head mark birth why place h = grind arith

same_heads : (a b : HeadParts) (xs ys : List Entry) → entry.Head a ∷ xs ≡ entry.Head b ∷ ys → (a ≡ b) × (xs ≡ ys)
same_heads a b xs ys is = (cc, cc)

module _ {K : Type 0} (form : Form K) (meaning : IsByMeaning form) where
  replay_machine : (head : HeadParts) (filter : List ClauseParts) (events : List Event) (s : State K) (why : OpenFault) → 1 ≤ head.event_limit → head.event_limit ≤ MAX_EVENTS → Replays form head.id filter head.event_limit events s
      → IsNoReplay form head filter events why → IsOfMachine why
  replay_machine head filter events s (fault.Replay replay.BadLimit) from to replays h = absurd (h (from, to))
  replay_machine head filter events s (fault.Replay (replay.Refused place refusal)) from to replays h =
      let stops = h.stops in
      alike_stop form meaning replays.fresh h.fresh s stops.reached stops.before stops.left stops.event refusal (alike_fresh form meaning head.id filter head.event_limit replays.fresh h.fresh replays.is_fresh h.is_fresh)
      (subst (λ (l : List Event). AdmitsAll form replays.fresh l s) stops.all replays.admits) stops.admits stops.refuses
  replay_machine head filter events s why from to replays h = absurd h

  -- a replay as its head has it
  as_head : (head : HeadParts) (s : State K) (events : List Event) → s.id ≡ head.id → s.event_limit ≡ head.event_limit → s.log ≡ events → IsItsLog form s → Replays form head.id s.filter head.event_limit events s
  as_head head s events id limit log is = grind arith

  module _ (file : List ℕ) (head : HeadParts) (s : State K) (notes : List NoteParts) (left : HasLogOf form file head s notes) where
    few : length (events_of left.entries) ≤ MAX_EVENTS + 1
    few =
        let most = replayed_few form s.id s.filter s.event_limit s.log s left.is_its_log in
        omega (arith, most, left.head_is.tells.event_limit, left.head_is.limit_to, ap length left.log_is)

    replays : Replays form head.id s.filter head.event_limit (events_of left.entries) s
    replays = as_head head s (events_of left.entries) left.head_is.tells.id left.head_is.tells.event_limit left.log_is left.is_its_log

    behind_machine : (why : OpenFault) → IsBehindHead form head (map entry_bytes left.entries) why → IsOfMachine why
    behind_machine why (inl none) = filter_machine head.filter s.filter why left.head_is.tells.filter left.head_is.is_filter none
    behind_machine why (inr behind) =
        let filters : behind.0 ≡ s.filter = Reads-unique head.filter behind.0 s.filter behind.1 left.head_is.tells.filter in
        ⊎_elim
        (λ stop. machine why (stop_memory left.entries why left.in_grammar.1 left.belong few stop))
        (λ no.
        let same : no.0 ≡ left.entries = same_entries no.0 left.entries no.1.in_grammar left.in_grammar.1 (sym no.1.written) in
        replay_machine head s.filter (events_of left.entries) s why left.head_is.limit_from left.head_is.limit_to replays
        (subst (λ (f : List ClauseParts). IsNoReplay form head f (events_of left.entries) why) filters (subst (λ (l : List Entry). IsNoReplay form head behind.0 (events_of l) why) same no.3)))
        behind.2

    head_spells : Spells (entry.Head head) (entry_bytes (entry.Head head))
    head_spells = record { in_grammar = left.in_grammar.0; written = refl }

    no_head_machine : (why : OpenFault) → IsNoHead (entry_bytes (entry.Head head)) why → IsOfMachine why
    no_head_machine why (inl unread) = machine why (unread_memory 0 (entry.Head head) (entry_bytes (entry.Head head)) why head_spells unread)
    no_head_machine why (inr other) = absurd (other.2 head (one_entry other.0 (entry.Head head) (entry_bytes (entry.Head head)) other.1 head_spells))

    refused_machine : (texts : List (List ℕ)) (mark : List ℕ) (birth : Option (List ℕ)) (why : OpenFault) → IsOfPlace head mark birth → texts ≡ map entry_bytes (entry.Head head ∷ left.entries) → IsRefused form texts mark birth why → IsOfMachine why
    refused_machine texts mark birth why place is h =
        ⊎_elim (no_head_machine why)
        (λ found.
        let one = one_entry (entry.Head found.0) (entry.Head head) (entry_bytes (entry.Head head)) found.1 head_spells in
        let same : found.0 ≡ head = (same_heads found.0 head [] [] (ap (λ (e : Entry). e ∷ []) one)).0 in
        ⊎_elim (λ other. absurd (other_place head mark birth why place (subst (λ (x : HeadParts). IsOfOther x mark birth why) same other)))
        (λ behind. behind_machine why (subst (λ (x : HeadParts). IsBehindHead form x (map entry_bytes left.entries) why) same behind.1)) found.2)
        (subst (λ (l : List (List ℕ)). IsRefused form l mark birth why) is h)

    -- what was replayed of it is of its head
    pub of_replayed : (texts : List (List ℕ)) (h : HeadParts) (t : State K) (kept issued : ℕ) (told : List NoteParts) → Stands texts file → (is : IsReplayed form texts h t kept issued told) → (h ≡ head) × IsOf h t × (notes_of is.entries ≡ notes)
    of_replayed texts h t kept issued told stands is =
        let same : entry.Head h ∷ is.entries ≡ entry.Head head ∷ left.entries =
        same_entries (entry.Head h ∷ is.entries) (entry.Head head ∷ left.entries) is.spelled.in_grammar left.in_grammar (sym is.spelled.written ∙ one_list file texts (map entry_bytes (entry.Head head ∷ left.entries)) stands left.stands) in
        let heads = same_heads h head is.entries left.entries same in
        let head_is : h ≡ head = heads.0 in
        let setting = replayed_setting form h.id t.filter h.event_limit (events_of is.entries) t is.replays in
        let filters : t.filter ≡ s.filter = Reads-unique head.filter t.filter s.filter (subst (λ (x : HeadParts). Reads x.filter t.filter) head_is is.filter) left.head_is.tells.filter in (
          head_is,
          record {
            tells = record { id = setting.0; filter = is.filter; event_limit = setting.1 };
            is_filter = subst (λ (f : List ClauseParts). IsFilter f) (sym filters) left.head_is.is_filter;
            limit_from = subst (λ (x : HeadParts). 1 ≤ x.event_limit) (sym head_is) left.head_is.limit_from;
            limit_to = subst (λ (x : HeadParts). x.event_limit ≤ MAX_EVENTS) (sym head_is) left.head_is.limit_to;
          },
          ap notes_of heads.1 ∙ left.notes_are,
        )

    -- and so is a file that stands for the same entries
    pub alike_has : (c : List ℕ) → StandAlike file c → HasLog form c head notes
    alike_has c alike =
        let same : alike.0 ≡ map entry_bytes (entry.Head head ∷ left.entries) = one_list file alike.0 (map entry_bytes (entry.Head head ∷ left.entries)) alike.1 left.stands in (
          s,
          record {
            entries = left.entries;
            in_grammar = left.in_grammar;
            stands = subst (λ (l : List (List ℕ)). Stands l c) same alike.2;
            belong = left.belong;
            head_is = left.head_is;
            log_is = left.log_is;
            notes_are = left.notes_are;
            is_its_log = left.is_its_log;
          },
        )

    -- what a crash leaves over an opening of the journal alone
    pub has_alike : {D : Type 0} {moment : D → ℕ} {left_since : D → ℕ → List ℕ → Type 0} (may_leave : D → List ℕ → Type 0) (before after : D) → LeavesOnly moment left_since before after (λ c. may_leave before c ⊎ StandAlike file c)
        → LeavesOnly moment left_since before after (λ c. may_leave before c ⊎ HasLog form c head notes)
    has_alike may_leave before after leaves = widened {P = λ c. may_leave before c ⊎ StandAlike file c} (λ c. may_leave before c ⊎ HasLog form c head notes) leaves (λ c here. as_going (alike_has c) here)

    -- and over the commit of what closes too
    pub has_open : {D V : Type 0} {seen : D → List ℕ} {may_leave : D → List ℕ → Type 0} {moment : D → ℕ} {left_since : D → ℕ → List ℕ → Type 0} {texts : List (List ℕ)} {told : List NoteParts} {mid : Journaled K D V}
        (read : IsRead form seen may_leave texts told mid) → Stands texts file → (journal : Journal D) (before after : D) → journal_of mid ≡ journal → LeavesOnly moment left_since before (device_of journal) (λ c. may_leave before c ⊎ StandAlike file c)
        → (IsOf (head_of mid) (replica_of mid) → LeavesOnly moment left_since (device_of (journal_of mid)) after (λ c. HasLog form c (head_of mid) (notes_of (entry.Head (head_of mid) ∷ read.replayed.entries))))
        → LeavesOnly moment left_since before after (λ c. may_leave before c ⊎ HasLog form c head notes)
    has_open {D} {V} {seen} {may_leave} {moment} {left_since} {texts} {told} {mid} read stood journal before after same first closing =
        let of = of_replayed texts (head_of mid) (replica_of mid) (kept_of mid) (issued_of mid) told stood read.replayed in
        let Q : List ℕ → Type 0 = λ c. HasLog form c (head_of mid) (notes_of (entry.Head (head_of mid) ∷ read.replayed.entries)) in
        let on : LeavesOnly moment left_since (device_of journal) after Q = subst (λ (j : Journal D). LeavesOnly moment left_since (device_of j) after Q) same (closing of.1) in
        joined (has_alike may_leave before (device_of journal) first)
        (widened {P = Q} (λ c. may_leave before c ⊎ HasLog form c head notes) on (λ c has. inr (subst (λ (h : HeadParts). HasLog form c h notes) of.0 (subst (λ (ns : List NoteParts). HasLog form c (head_of mid) ns) of.2 has))))

    -- memory and the device aside, it is opened
    pub opens : (mark : List ℕ) (birth : Option (List ℕ)) (why : OpenFault) → IsOfPlace head mark birth → IsOpenFault form file mark birth why → IsOfMachine why
    opens mark birth why place (inl of_file) =
        subst (λ (f : OpenFault). IsOfMachine f) (sym of_file.1) (not_refused file (map entry_bytes (entry.Head head ∷ left.entries)) of_file.0 left.stands of_file.2)
    opens mark birth why place (inr of_texts) =
        ⊎_elim
        (λ refused. refused_machine of_texts.0 mark birth why place (one_list file of_texts.0 (map entry_bytes (entry.Head head ∷ left.entries)) of_texts.1 left.stands) refused)
        (λ unkept. subst (λ (f : OpenFault). IsOfMachine f) (sym unkept.8) tt)
        of_texts.2

    -- and gives a replica that is alike
    pub comes_back : {D V : Type 0} (seen : D → List ℕ) (may_leave : D → List ℕ → Type 0) (all : Bool) (told : List NoteParts) (j : Journaled K D V) → Reopens form seen may_leave file all told j → ComesBack form s all (replica_of j) × (told ≡ notes)
    comes_back seen may_leave all told j again =
        let entries : List Entry = entry.Head (head_of j) ∷ again.entries in
        let same : entries ≡ entry.Head head ∷ left.entries = same_entries entries (entry.Head head ∷ left.entries) (all_split IsEntry entries _ again.kept.in_grammar).0 left.in_grammar (one_list file (map entry_bytes entries) (map entry_bytes (entry.Head head ∷ left.entries)) again.stood left.stands) in
        let heads = same_heads (head_of j) head again.entries left.entries same in
        let head_is : head_of j ≡ head = heads.0 in
        let list : again.entries ≡ left.entries = heads.1 in
        let t : State K = again.replica in
        let filters : t.filter ≡ s.filter = Reads-unique head.filter t.filter s.filter (subst (λ (h : HeadParts). Reads h.filter t.filter) head_is again.tells.filter) left.head_is.tells.filter in
        let id : t.id ≡ head.id = again.tells.id ∙ ap (λ (h : HeadParts). h.id) head_is in
        let limit : t.event_limit ≡ head.event_limit = again.tells.event_limit ∙ ap (λ (h : HeadParts). h.event_limit) head_is in
        let theirs : Replays form head.id s.filter head.event_limit (events_of left.entries) t =
        subst (λ (n : ℕ). Replays form n s.filter head.event_limit (events_of left.entries) t) id
        (subst (λ (f : List ClauseParts). Replays form t.id f head.event_limit (events_of left.entries) t) filters
        (subst (λ (n : ℕ). Replays form t.id t.filter n (events_of left.entries) t) limit
        (subst (λ (l : List Entry). Replays form t.id t.filter t.event_limit (events_of l) t) list again.replays))) in
        (record { replica = t; alike = alike_replays form meaning head.id s.filter head.event_limit (events_of left.entries) s t replays theirs; closed = again.closed }, again.notes_are ∙ ap notes_of list ∙ left.notes_are)
