use Rattle.std.proofs.Common.{◌≡◌, ◌≢◌, ◌<◌, ◌≤◌, ◌⊎◌, ℕ, zero, suc, true, false, List, [], ◌∷◌, ◌++◌, length, get_or, set, Option, Some, None, All, AllPairs, refl, ap, sym, ◌∙◌, arith, inl, inr}
use Rattle.mr_itemset.proofs.Names.{Alike, All-cons, All-head, All-nil, All-tail, AllPairs-head, AllPairs-tail, AreNoted, AuthorColumn, BTreeMap, FillInTurn}
use Rattle.mr_itemset.proofs.Names.{IsNoted, Listed, MAX_ITEMS, TakesAt, alone, and_parts, cases_Bool, cases_eq, cases_lt, false_from_ne_true, false≢true}
use Rattle.mr_itemset.proofs.Names.{get_or-set_other, get_or-set_same, get_or_append_left, get_or_default, get_or_push, grouped, length-set, length_push}
use Rattle.mr_itemset.proofs.Names.{lt-ltb, ltb-true, mark_of, slice_get, takes, vectors_Decides}
use Rattle.std.proofs.lemmas.List.Kept.{AllPairs-cons}
use Rattle.mr_itemset.specs.Groups.{with_item}

-- ---- what holds of each group, and of each two, as an item is put in

pub all_grouped_by : (most : ℕ) (S P : Alike → Type 0) (gs : List Alike) (x : Listed) → All S gs → All P gs → P (alone x) → ((g : Alike) → S g → takes most g x.vector ≡ true → P g → P (with_item g x.item)) → All P (grouped most gs x)
all_grouped_by most S P [] x side all one more = All-cons P (alone x) [] one (All-nil P)
all_grouped_by most S P (g ∷ gs) x side all one more = go (cases_Bool (takes most g x.vector)) (all_grouped_by most S P gs x (All-tail S g gs side) (All-tail P g gs all) one more)
  where
    go : (takes most g x.vector ≡ true) ⊎ (takes most g x.vector ≡ false) → All P (grouped most gs x) → All P (grouped most (g ∷ gs) x)
    go (inl same) rest = rw same (All-cons P (with_item g x.item) gs (more g (All-head S g gs side) same (All-head P g gs all)) (All-tail P g gs all))
    go (inr other) rest = rw other (All-cons P g (grouped most gs x) (All-head P g gs all) rest)

pub pairs_grouped_by : (most : ℕ) (S : Alike → Type 0) (R : Alike → Alike → Type 0) (gs : List Alike) (x : Listed) → All S gs → AllPairs R gs → ((g : Alike) → S g → takes most g x.vector ≡ false → R g (alone x)) → ((g h : Alike) → S g → S h → R g h → R g (with_item h x.item)) → ((g h : Alike) → S g → S h → takes most g x.vector ≡ true → R g h → R (with_item g x.item) h) → AllPairs R (grouped most gs x)
pairs_grouped_by most S R [] x side all last right left = AllPairs-cons R (alone x) [] (All-nil (R (alone x))) all
pairs_grouped_by most S R (g ∷ gs) x side all last right left = go (cases_Bool (takes most g x.vector)) (pairs_grouped_by most S R gs x (All-tail S g gs side) (AllPairs-tail R g gs all) last right left)
  where
    mine : S g
    mine = All-head S g gs side

    go : (takes most g x.vector ≡ true) ⊎ (takes most g x.vector ≡ false) → AllPairs R (grouped most gs x) → AllPairs R (grouped most (g ∷ gs) x)
    go (inl same) rest = rw same (AllPairs-cons R (with_item g x.item) gs (λ k d within. left g _ mine (All-tail S g gs side k d within) same (AllPairs-head R g gs all k d within)) (AllPairs-tail R g gs all))
    go (inr other) rest = rw other (AllPairs-cons R g (grouped most gs x) (all_grouped_by most S (R g) gs x (All-tail S g gs side) (AllPairs-head R g gs all) (last g mine other) (λ h yours same r. right g h mine yours r)) rest)

-- ---- which group takes an item

-- the group that takes one has the vector, and room
pub taken : (most : ℕ) (g : Alike) (vector : List AuthorColumn) → takes most g vector ≡ true → (g.vector ≡ vector) × (length g.items < most)
taken most g vector takes = grind (arith, and_parts, vectors_Decides, ltb-true)

-- a group with the vector that takes none is full
pub untaken : (most : ℕ) (g : Alike) (vector : List AuthorColumn) → takes most g vector ≡ false → g.vector ≡ vector → ¬ (length g.items < most)
untaken most g vector h same few = grind (arith, false≢true, vectors_Decides, lt-ltb)

-- as an item is put in, groups still fill in turn
pub fill_grouped : (most : ℕ) (gs : List Alike) (x : Listed) → FillInTurn most gs → FillInTurn most (grouped most gs x)
fill_grouped most gs x turn = pairs_grouped_by most (λ _. Unit {0}) (λ g h. g.vector ≡ h.vector → ¬ (length g.items < most)) gs x (λ k d within. tt) turn
    (λ g s none same few. untaken most g x.vector none same few) (λ g h s t r. r)
    (λ g h s t takes r same few. let more = length_push g.items x.item in let less : length g.items < most = omega arith in r same less)

-- ---- an item that a group takes

-- its group gets the item: no group before it takes one
pub grouped_there : (gs : List Alike) (x : Listed) (k : ℕ) (g : Alike) → FillInTurn MAX_ITEMS gs → TakesAt gs x.vector k → g ≡ get_or gs k g → set gs k (with_item g x.item) ≡ grouped MAX_ITEMS gs x
grouped_there [] x k g turn there is = let within = there.0 in absurd (omega arith)
grouped_there (h ∷ hs) x zero g turn there is = let ours : takes MAX_ITEMS h x.vector ≡ true = there.1 h in rw ours (ap (λ (f : Alike). with_item f x.item ∷ hs) is)
grouped_there (h ∷ hs) x (suc k) g turn there is =
    let within : k < length hs = let w = there.0 in omega arith in
    let has = taken MAX_ITEMS (get_or hs k g) x.vector (there.1 g) in
    let lack : takes MAX_ITEMS h x.vector ≡ false = false_from_ne_true (takes MAX_ITEMS h x.vector)
    (λ ours. let first = taken MAX_ITEMS h x.vector ours in AllPairs-head (λ f g. f.vector ≡ g.vector → ¬ (length f.items < MAX_ITEMS)) h hs turn k g within (first.0 ∙ sym has.0) first.1) in
    rw lack (ap (λ (fs : List Alike). h ∷ fs) (grouped_there hs x k g (AllPairs-tail (λ f g. f.vector ≡ g.vector → ¬ (length f.items < MAX_ITEMS)) h hs turn) (within, λ d. there.1 d) is))

-- and the places are noted as they were
pub noted_joined : (gs : List Alike) (x : Listed) (k : ℕ) (g : Alike) (slots : List (Option ℕ)) (others : BTreeMap (List AuthorColumn) ℕ) → TakesAt gs x.vector k → g ≡ get_or gs k g → AreNoted gs slots others → AreNoted (set gs k (with_item g x.item)) slots others
noted_joined gs x k g slots others there is noted at d within few = go (cases_eq at k)
  where
    same_length : length (set gs k (with_item g x.item)) ≡ length gs
    same_length = length-set gs k (with_item g x.item)

    go : (at ≡ k) ⊎ (at ≢ k) → IsNoted slots others (get_or (set gs k (with_item g x.item)) at d).vector at
    go (inl same) =
        let read : get_or (set gs k (with_item g x.item)) at d ≡ with_item g x.item = ap (λ n. get_or (set gs k (with_item g x.item)) n d) same ∙ get_or-set_same gs k (with_item g x.item) d there.0 in
        let more = length_push g.items x.item in
        let now : length (with_item g x.item).items < MAX_ITEMS = rw read at few in
        rw (read, same) (rw (← is) at (noted k g there.0 (rw (← is) (omega arith))))
    go (inr other) = let read = get_or-set_other gs k at (with_item g x.item) d other in let same = same_length in rw read (noted at d (omega arith) (rw read at few))

-- ---- an item that none takes

-- where no place that is noted for its vector is that of one which takes it, none does
pub none_takes : (gs : List Alike) (vector : List AuthorColumn) (slots : List (Option ℕ)) (others : BTreeMap (List AuthorColumn) ℕ) → AreNoted gs slots others → ((at : ℕ) → IsNoted slots others vector at → ¬ TakesAt gs vector at) → All (λ g. takes MAX_ITEMS g vector ≡ false) gs
none_takes gs vector slots others noted none at d within = false_from_ne_true (takes MAX_ITEMS (get_or gs at d) vector)
    (λ ours. let has = taken MAX_ITEMS (get_or gs at d) vector ours in none at (rw has.0 at (noted at d within has.1)) (within, λ e. ap (λ (g : Alike). takes MAX_ITEMS g vector) (get_or_default gs at e d within) ∙ ours))

-- a group of its own comes behind the others
pub grouped_last : (gs : List Alike) (x : Listed) → All (λ g. takes MAX_ITEMS g x.vector ≡ false) gs → grouped MAX_ITEMS gs x ≡ gs ++ alone x ∷ []
grouped_last [] x none = refl
grouped_last (g ∷ gs) x none =
    rw (All-head (λ g. takes MAX_ITEMS g x.vector ≡ false) g gs none) (ap (λ (fs : List Alike). g ∷ fs) (grouped_last gs x (All-tail (λ g. takes MAX_ITEMS g x.vector ≡ false) g gs none)))

-- where its place is noted, and no other one forgotten
pub noted_alone : (gs : List Alike) (x : Listed) (slots new : List (Option ℕ)) (others more : BTreeMap (List AuthorColumn) ℕ) → All (λ g. takes MAX_ITEMS g x.vector ≡ false) gs → AreNoted gs slots others
    → IsNoted new more x.vector (length gs) → ((v : List AuthorColumn) (at : ℕ) → v ≢ x.vector → IsNoted slots others v at → IsNoted new more v at) → AreNoted (gs ++ alone x ∷ []) new more
noted_alone gs x slots new others more none noted here kept at d within few = go (cases_lt at (length gs))
  where
    go : (at < length gs) ⊎ (length gs ≤ at) → IsNoted new more (get_or (gs ++ alone x ∷ []) at d).vector at
    go (inl before) =
        let read = get_or_append_left gs (alone x ∷ []) d at before in
        let room : length (get_or gs at d).items < MAX_ITEMS = rw read at few in
        rw read (kept (get_or gs at d).vector at (λ same. untaken MAX_ITEMS (get_or gs at d) x.vector (none at d before) same room) (noted at d before room))
    go (inr last) =
        let more = length_push gs (alone x) in
        let same : length gs ≡ at = omega arith in
        rw (get_or_push gs (alone x) d at same, ← same) here

-- ---- marks

pub mark_first : (v : List AuthorColumn) (x : AuthorColumn) → Some x ≡ slice_get v 0 → x.column.upto ≡ mark_of v
mark_first v x e = grind (arith, false≢true)

pub mark_none : (v : List AuthorColumn) → None ≡ slice_get v 0 → 0 ≡ mark_of v
mark_none v e = grind (arith, false≢true)
