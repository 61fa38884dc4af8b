-- entries of events, one after the other
use Rattle.std.proofs.Common.{zero, suc, ◌≡◌, ℕ, ◌+◌, ◌-◌, ◌<◌, ◌≤◌, List, [], ◌∷◌, ◌++◌, length, take, drop, get_or, arith, refl, sym, ap, subst, ◌∙◌, append_assoc, append-nil}
use Rattle.mr_kept.proofs.Names.{AllBelong, AllByRecursion, AreSpelled, Belongs, Entry, Event, Global, HeadParts, IsEntry, MAX_EVENTS, Next, NoteParts}
use Rattle.mr_kept.proofs.Names.{Spells, Vec, contents, counted, entry_bytes, events_of, events_of_entry, flat_map, issued_after, map, map-append, notes_of}
use Rattle.mr_kept.proofs.Names.{notes_of_entry, replicate, take-length, take_more}
use Rattle.std.proofs.lemmas.List.Concat.{flat_map-append, flat_map-cons}
use Rattle.mr_entry.specs.declared.entry.Entry.TheVariants as entry

-- ---- lists

pub all_append : {A : Type 0} (P : A → Type 0) (xs ys : List A) → AllByRecursion P xs → AllByRecursion P ys → AllByRecursion P (xs ++ ys)
all_append P [] ys h k = k
all_append P (x ∷ xs) ys h k = (h.0, all_append P xs ys h.1 k)

pub all_split : {A : Type 0} (P : A → Type 0) (xs ys : List A) → AllByRecursion P (xs ++ ys) → AllByRecursion P xs × AllByRecursion P ys
all_split P [] ys h = (tt, h)
all_split P (x ∷ xs) ys h = let rest = all_split P xs ys h.1 in ((h.0, rest.0), rest.1)

pub contents_append : (xs ys : List (Vec ℕ Global)) → contents (xs ++ ys) ≡ contents xs ++ contents ys
contents_append = map-append (λ (v : Vec ℕ Global). v.items)

-- the first, and what stands behind it
pub contents_first : (l : List (Vec ℕ Global)) (x : Vec ℕ Global) → 1 ≤ length l → x ≡ get_or l 0 x → contents l ≡ x.items ∷ contents (take (length l - 1) (drop 1 l))
contents_first [] x some is = absurd (omega (arith, some))
contents_first (y ∷ ys) x some is =
    let len : length (y ∷ ys) - 1 ≡ length ys = omega arith in
    let rest : take (length (y ∷ ys) - 1) ys ≡ ys = ap (λ (n : ℕ). take n ys) len ∙ take-length ys in
    ap (λ (v : Vec ℕ Global). v.items ∷ contents ys) (sym is) ∙ ap (λ (l : List (Vec ℕ Global)). x.items ∷ contents l) (sym rest)

pub spelled_append : (xs ys : List Entry) (a b : List (List ℕ)) → AreSpelled xs a → AreSpelled ys b → AreSpelled (xs ++ ys) (a ++ b)
spelled_append xs ys a b h k = grind (arith, all_append, map-append)

pub spelled_one : (x : Entry) (text : List ℕ) → IsEntry x → text ≡ entry_bytes x → AreSpelled (x ∷ []) (text ∷ [])
spelled_one x text is e = record { in_grammar = (is, tt); written = ap (λ (t : List ℕ). t ∷ []) e }

-- ---- counts

pub issued_append : (n : ℕ) (xs ys : List Event) → issued_after n (xs ++ ys) ≡ issued_after (issued_after n xs) ys
issued_append n [] ys = refl
issued_append n (x ∷ xs) ys = issued_append (counted n x) xs ys

-- ---- what entries tell

tells_more : {T : Type 0} (told : Entry → List T) (xs : List Entry) (x : Entry) → flat_map told (xs ++ x ∷ []) ≡ flat_map told xs ++ told x
tells_more {T} told xs x = flat_map-append told xs (x ∷ []) ∙ ap (λ (l : List T). flat_map told xs ++ l) (flat_map-cons told x [] ∙ append-nil (told x))

pub events_cons : (x : Entry) (xs : List Entry) → events_of (x ∷ xs) ≡ events_of_entry x ++ events_of xs
events_cons x xs = flat_map-cons events_of_entry x xs

pub events_append : (xs ys : List Entry) → events_of (xs ++ ys) ≡ events_of xs ++ events_of ys
events_append = flat_map-append events_of_entry

-- a head tells none
pub events_head : (h : HeadParts) (xs : List Entry) → events_of (entry.Head h ∷ xs) ≡ events_of xs
events_head h xs = events_cons (entry.Head h) xs

pub notes_cons : (x : Entry) (xs : List Entry) → notes_of (x ∷ xs) ≡ notes_of_entry x ++ notes_of xs
notes_cons x xs = flat_map-cons notes_of_entry x xs

pub notes_append : (xs ys : List Entry) → notes_of (xs ++ ys) ≡ notes_of xs ++ notes_of ys
notes_append = flat_map-append notes_of_entry

-- nor has a head a note
pub notes_head : (h : HeadParts) (xs : List Entry) → notes_of (entry.Head h ∷ xs) ≡ notes_of xs
notes_head h xs = notes_cons (entry.Head h) xs

-- ---- the entries of notes

-- they tell these
pub notes_are : (ns : List NoteParts) → notes_of (map entry.Note ns) ≡ ns
notes_are [] = refl
notes_are (n ∷ ns) = notes_cons (entry.Note n) (map entry.Note ns) ∙ ap (λ (l : List NoteParts). n ∷ l) (notes_are ns)

-- no event among them
pub notes_tell : (ns : List NoteParts) → events_of (map entry.Note ns) ≡ []
notes_tell [] = refl
notes_tell (n ∷ ns) = events_cons (entry.Note n) (map entry.Note ns) ∙ notes_tell ns

pub notes_belong : (issued : ℕ) (ns : List NoteParts) → AllBelong issued (map entry.Note ns)
notes_belong issued [] = tt
notes_belong issued (n ∷ ns) = (tt, notes_belong issued ns)

-- one note more
pub note_more : (list : List Entry) (ns : List NoteParts) (i : ℕ) (n : NoteParts) (texts after : List (List ℕ)) (text : List ℕ) → AreSpelled (list ++ map entry.Note (take i ns)) texts → i < length ns → n ≡ get_or ns i n
    → Spells (entry.Note n) text → after ≡ texts ++ text ∷ [] → AreSpelled (list ++ map entry.Note (take (i + 1) ns)) after
note_more list ns i n texts after text so_far within is spells after_is =
    let front : List Entry = map entry.Note (take i ns) in
    let run : take (i + 1) ns ≡ take i ns ++ n ∷ [] = take_more ns i n within ∙ ap (λ (y : NoteParts). take i ns ++ y ∷ []) (sym is) in
    let whole : (list ++ front) ++ entry.Note n ∷ [] ≡ list ++ map entry.Note (take (i + 1) ns) =
    append_assoc list front (entry.Note n ∷ []) ∙ ap (λ (l : List Entry). list ++ l) (sym (map-append entry.Note (take i ns) (n ∷ [])) ∙ ap (map entry.Note) (sym run)) in
    subst (λ (l : List (List ℕ)). AreSpelled (list ++ map entry.Note (take (i + 1) ns)) l) (sym after_is)
    (subst (λ (l : List Entry). AreSpelled l (texts ++ text ∷ [])) whole (spelled_append (list ++ front) (entry.Note n ∷ []) texts (text ∷ []) so_far (spelled_one (entry.Note n) text spells.in_grammar spells.written)))

-- ---- counters

-- how many versions are issued behind an entry and others
pub issued_cons : (n : ℕ) (x : Entry) (xs : List Entry) → issued_after n (events_of (x ∷ xs)) ≡ issued_after (issued_after n (events_of_entry x)) (events_of xs)
issued_cons n x xs = ap (issued_after n) (events_cons x xs) ∙ issued_append n (events_of_entry x) (events_of xs)

pub all_belong : (n : ℕ) (xs ys : List Entry) → AllBelong n xs → AllBelong (issued_after n (events_of xs)) ys → AllBelong n (xs ++ ys)
all_belong n [] ys h k = k
all_belong n (x ∷ xs) ys h k = (h.0, all_belong (issued_after n (events_of_entry x)) xs ys h.1 (subst (λ (m : ℕ). AllBelong m ys) (issued_cons n x xs) k))

-- ---- loops

-- what the entries so far tell
pub record GatheredSoFar (texts : List (List ℕ)) (events : List Event) (issued : ℕ) (notes : List NoteParts) : Type 0 where
  pub list : List Entry
  pub spelled : AreSpelled list texts
  pub belong : AllBelong 0 list
  pub few : length events ≤ MAX_EVENTS + 1
  pub events_told : events_of list ≡ events
  pub issued_is : issued ≡ issued_after 0 events
  pub notes_told : notes ≡ notes_of list

-- one entry more of those that are read
pub gathered_next : (entries : List (Vec ℕ Global)) (i : ℕ) (bytes : Vec ℕ Global) (events after : List Event) (issued now : ℕ) (notes notes_after : List NoteParts) (e : Entry)
    → GatheredSoFar (contents (take i entries)) events issued notes → i < length entries → bytes ≡ get_or entries i bytes → Spells e bytes.items → after ≡ events ++ events_of_entry e
    → now ≡ issued_after issued (events_of_entry e) → notes_after ≡ notes ++ notes_of_entry e → Belongs issued e → length after ≤ MAX_EVENTS + 1 → GatheredSoFar (contents (take (i + 1) entries)) after now notes_after
gathered_next entries i bytes events after issued now notes notes_after e so_far within is spells after_is now_is notes_is belongs few =
    let run : take (i + 1) entries ≡ take i entries ++ bytes ∷ [] = take_more entries i bytes within ∙ ap (λ (y : Vec ℕ Global). take i entries ++ y ∷ []) (sym is) in
    let texts : contents (take i entries) ++ bytes.items ∷ [] ≡ contents (take (i + 1) entries) = sym (contents_append (take i entries) (bytes ∷ [])) ∙ ap contents (sym run) in
    record {
      list = so_far.list ++ e ∷ [];
      spelled = subst (λ (l : List (List ℕ)). AreSpelled (so_far.list ++ e ∷ []) l) texts (spelled_append so_far.list (e ∷ []) (contents (take i entries)) (bytes.items ∷ []) so_far.spelled (spelled_one e bytes.items spells.in_grammar spells.written));
      belong = all_belong 0 so_far.list (e ∷ []) so_far.belong (subst (λ (m : ℕ). Belongs m e) (so_far.issued_is ∙ ap (issued_after 0) (sym so_far.events_told)) belongs, tt);
      few = few;
      events_told = tells_more events_of_entry so_far.list e ∙ ap (λ (l : List Event). l ++ events_of_entry e) so_far.events_told ∙ sym after_is;
      issued_is = now_is ∙ ap (λ (m : ℕ). issued_after m (events_of_entry e)) so_far.issued_is ∙ sym (issued_append 0 events (events_of_entry e)) ∙ ap (issued_after 0) (sym after_is);
      notes_told = notes_is ∙ ap (λ (l : List NoteParts). l ++ notes_of_entry e) so_far.notes_told ∙ sym (tells_more notes_of_entry so_far.list e);
    }

-- a run of Nexts issues no version
pub run_issues : (n stream count : ℕ) → issued_after n (replicate count (Next stream)) ≡ n
run_issues n stream zero = refl
run_issues n stream (suc k) = run_issues n stream k
