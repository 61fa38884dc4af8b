use Rattle.std.proofs.Common.{ℕ, ◌≡◌, ◌≤◌, ◌⊎◌, suc, Bool, true, false, cond, ◌||◌, ◌&&◌, List, [], ◌∷◌, length, All, AllPairs, Contains, refl, ap, sym, ◌∙◌, subst, arith, inl, inr}
use Rattle.mr_itemset.proofs.Names.{All-contains, All-head, All-tail, All-weaker, AllPairs-head, AllPairs-tail, AreSame, AuthorColumn, HasHoleyItem, HasMore}
use Rattle.mr_itemset.proofs.Names.{HasRoom, HasTooManyHoles, IsBefore, IsNormal, IsSame, IsVectorFrom, Lacks, Less, Listed, Name, Normal, Ordering, Versions}
use Rattle.mr_itemset.proofs.Names.{cases_Bool, false≢true, few-vector, is_eq, is_lt, items_of, list_any, name_cmp, name_eq, name_eq-itself}
use Rattle.mr_itemset.proofs.Names.{name_eq-symmetric, names_total, normal_known, or_cases, or_parts, placed, vector_has, vector_in, vector_of, with_below}
use Rattle.mr_forms.specs.Sets.{both}
use Rattle.mr_itemset.proofs.NormalLemmas.{same_name, vector_in-cases, vector_in-unlisted}
use Rattle.mr_itemset.proofs.PlaceLemmas.{name_cases, All-placed, rising-placed, length-placed, vector_in-placed}

-- ---- what is known of an item

-- each item's vector is one, and has all that all items have
pub vector_of-IsVector : {limit : ℕ} (k : Normal) (i : Name) → IsNormal limit k → IsVectorFrom 0 (vector_of k i)
vector_of-IsVector k i normal = grind (arith, vector_in-cases, All-contains)

pub covers_all : {limit : ℕ} (k : Normal) (i v : Name) → IsNormal limit k → vector_has k.all v ≡ true → vector_has (vector_of k i) v ≡ true
covers_all k i v normal has = go (vector_in-cases k.all k.listed i)
  where
    go : (vector_in k.all k.listed i ≡ k.all) ⊎ ((x : Listed) × (Contains k.listed x × ((x.item ≡ i) × (vector_in k.all k.listed i ≡ x.vector)))) → vector_has (vector_of k i) v ≡ true
    go (inl e) = ap (λ (c : List AuthorColumn). vector_has c v) e ∙ has
    go (inr x) = ap (λ (c : List AuthorColumn). vector_has c v) x.1.1.1 ∙ (All-contains (HasMore k.all) k.listed x.0 normal.more x.1.0).covers v has

or_true : (a b : Bool) → b ≡ true → (a || b) ≡ true
or_true a b e = grind arith

absorbed : (set old grown all : Bool) → grown ≡ (set || old) → grown ≡ all → (all ≡ true → old ≡ true) → old ≡ (set || old)
absorbed set old grown all is same covers = grind (arith, or_true, false≢true)

-- where the item then has no more than all, nothing changes
pub item_kept : {limit : ℕ} (k : Normal) (set : Versions) (item : Name) (vector : List AuthorColumn) → IsNormal limit k → IsSame (vector_has vector) (both set (vector_has (vector_of k item))) → IsSame (vector_has vector) (vector_has k.all) → AreSame (normal_known k) (with_below (normal_known k) item set)
item_kept k set item vector normal grown same i v = go (cases_Bool (name_eq item i))
  where
    go : (name_eq item i ≡ true) ⊎ (name_eq item i ≡ false) → normal_known k i v ≡ ((name_eq item i && set v) || normal_known k i v)
    go (inl here) =
        let e = same_name item i here in
        rw here (ap (λ (j : Name). normal_known k j v) (sym e)
        ∙ absorbed (set v) (normal_known k item v) (vector_has vector v) (vector_has k.all v) (grown v) (same v) (covers_all k item v normal)
        ∙ ap (λ (j : Name). set v || normal_known k j v) e)
    go (inr other) = rw other refl

-- the knowledge with the item's vector in its place
abbrev pub with_item : Normal → Name → List AuthorColumn → Normal
with_item k item vector = record { all = k.all; listed = placed (record { item = item; vector = vector }) k.listed }

pub item_placed : (k : Normal) (set : Versions) (item : Name) (vector : List AuthorColumn) → IsSame (vector_has vector) (both set (vector_has (vector_of k item))) → AreSame (normal_known (with_item k item vector)) (with_below (normal_known k) item set)
item_placed k set item vector grown i v = ap (λ (c : List AuthorColumn). vector_has c v) (vector_in-placed k.all (record { item = item; vector = vector }) k.listed i) ∙ go (cases_Bool (name_eq item i))
  where
    go : (name_eq item i ≡ true) ⊎ (name_eq item i ≡ false) → vector_has (cond (name_eq item i) vector (vector_in k.all k.listed i)) v ≡ ((name_eq item i && set v) || normal_known k i v)
    go (inl here) = rw here (grown v ∙ ap (λ (j : Name). set v || normal_known k j v) (same_name item i here))
    go (inr other) = rw other refl

-- ---- how many are listed

free_below : (n : Name) (xs : List Listed) → All (λ y. name_cmp n y.item ≡ Less) xs → list_any (name_eq n) (items_of xs) ≡ false
free_below n [] above = refl
free_below n (x ∷ xs) above =
    rw (ap is_eq (All-head (λ y. name_cmp n y.item ≡ Less) x xs above)) (free_below n xs (All-tail (λ y. name_cmp n y.item ≡ Less) x xs above))

lt_not_eq : (o : Ordering) → is_lt o ≡ true → is_eq o ≡ false
lt_not_eq o less = grind (arith, false≢true)

-- an item that is listed takes its own place
pub length-placed-listed : (new : Listed) (xs : List Listed) → AllPairs IsBefore xs → list_any (name_eq new.item) (items_of xs) ≡ true → length (placed new xs) ≤ length xs
length-placed-listed new [] rising any = absurd (false≢true any)
length-placed-listed new (x ∷ xs) rising any = go (cases_Bool (is_lt (name_cmp x.item new.item))) (cases_Bool (name_eq x.item new.item)) (λ there. length-placed-listed new xs (AllPairs-tail IsBefore x xs rising) there)
  where
    go : (is_lt (name_cmp x.item new.item) ≡ true) ⊎ (is_lt (name_cmp x.item new.item) ≡ false) → (name_eq x.item new.item ≡ true) ⊎ (name_eq x.item new.item ≡ false) → (list_any (name_eq new.item) (items_of xs) ≡ true → length (placed new xs) ≤ length xs) → length (placed new (x ∷ xs)) ≤ suc (length xs)
    go (inl less) same rest =
        let ih = rest (later (or_cases (name_eq new.item x.item) (list_any (name_eq new.item) (items_of xs)) any)) in
        rw less (omega arith)
      where
        later : (name_eq new.item x.item ≡ true) ⊎ (list_any (name_eq new.item) (items_of xs) ≡ true) → list_any (name_eq new.item) (items_of xs) ≡ true
        later (inl here) = absurd (false≢true (sym (lt_not_eq (name_cmp x.item new.item) less) ∙ name_eq-symmetric x.item new.item ∙ here))
        later (inr there) = there
    go (inr not_less) (inl same) rest = rw (not_less, same) (omega arith)
    go (inr not_less) (inr other) rest = absurd (above (name_cases x.item new.item (name_cmp x.item new.item) refl))
      where
        above : (name_cmp x.item new.item ≡ Less) ⊎ ((x.item ≡ new.item) ⊎ (name_cmp new.item x.item ≡ Less)) → ⊥
        above (inl l) = false≢true (sym not_less ∙ ap is_lt l)
        above (inr (inl e)) = false≢true (sym other ∙ (ap (λ (z : Name). name_eq x.item z) (sym e) ∙ name_eq-itself x.item))
        above (inr (inr m)) =
            let free : list_any (name_eq new.item) (items_of xs) ≡ false = free_below new.item xs (All-weaker (IsBefore x) (λ y. name_cmp new.item y.item ≡ Less) (λ y before. names_total.trans new.item x.item y.item m before) xs (AllPairs-head IsBefore x xs rising)) in
            let none : (name_eq new.item x.item || list_any (name_eq new.item) (items_of xs)) ≡ false = rw (ap is_eq m, free) refl in
            false≢true (sym none ∙ any)

few_placed : {limit : ℕ} (k : Normal) (set : Versions) (item : Name) (vector : List AuthorColumn) → IsNormal limit k → HasRoom limit k item set → IsSame (vector_has vector) (both set (vector_has (vector_of k item))) → (IsSame (vector_has vector) (vector_has k.all) → ⊥) → length (placed (record { item = item; vector = vector }) k.listed) ≤ limit
few_placed {limit = limit} k set item vector normal (inl room) grown more = let up = length-placed (record { item = item; vector = vector }) k.listed in omega arith
few_placed {limit = limit} k set item vector normal (inr (inl listed)) grown more = let up = length-placed-listed (record { item = item; vector = vector }) k.listed normal.rising listed in let few = normal.few in omega arith
few_placed {limit = limit} k set item vector normal (inr (inr covers)) grown more = go (cases_Bool (list_any (name_eq item) (items_of k.listed)))
  where
    nothing_new : (s a : Bool) → (s ≡ true → a ≡ true) → (s || a) ≡ a
    nothing_new true a h = sym (h refl)
    nothing_new false a h = refl

    go : (list_any (name_eq item) (items_of k.listed) ≡ true) ⊎ (list_any (name_eq item) (items_of k.listed) ≡ false) → length (placed (record { item = item; vector = vector }) k.listed) ≤ limit
    go (inl listed) = let up = length-placed-listed (record { item = item; vector = vector }) k.listed normal.rising listed in let few = normal.few in omega arith
    go (inr free) = absurd (more (λ v. grown v ∙ ap (λ (c : List AuthorColumn). set v || vector_has c v) (vector_in-unlisted k.all k.listed item free) ∙ nothing_new (set v) (vector_has k.all v) (covers v)))

-- the placed item is in normal form
pub item_normal : {limit : ℕ} (k : Normal) (set : Versions) (item : Name) (vector : List AuthorColumn) → IsNormal limit k → HasRoom limit k item set → IsVectorFrom 0 vector → IsSame (vector_has vector) (both set (vector_has (vector_of k item))) → (IsSame (vector_has vector) (vector_has k.all) → ⊥) → IsNormal limit (with_item k item vector)
item_normal k set item vector normal room vector_ok grown more = record {
  all_ok = normal.all_ok;
  rising = rising-placed (record { item = item; vector = vector }) k.listed normal.rising;
  more = All-placed (HasMore k.all) (record { item = item; vector = vector }) k.listed normal.more (record {
    vector_ok = vector_ok;
    covers = λ v has. grown v ∙ or_true (set v) (vector_has (vector_of k item) v) (covers_all k item v normal has);
    more = more;
  });
  few = few_placed k set item vector normal room grown more;
}

-- ---- its limits

pub same_tests : (s t : Versions) → ((v : Name) → s v ≡ t v) → s ≡ t
same_tests s t h = λ i v. h v i

pub item_from_holey : {limit : ℕ} (k : Normal) (set : Versions) (item : Name) → IsNormal limit k → HasHoleyItem (with_below (normal_known k) item set) → HasTooManyHoles (both set (vector_has (vector_of k item)))
item_from_holey k set item normal holey = go (cases_Bool (name_eq item holey.item))
  where
    go : (name_eq item holey.item ≡ true) ⊎ (name_eq item holey.item ≡ false) → HasTooManyHoles (both set (vector_has (vector_of k item)))
    go (inl here) = subst HasTooManyHoles (same_tests (with_below (normal_known k) item set holey.item) (both set (vector_has (vector_of k item)))
        (λ v. ap (λ (b : Bool). (b && set v) || normal_known k holey.item v) here ∙ ap (λ (j : Name). set v || normal_known k j v) (sym (same_name item holey.item here)))) holey.holes
    go (inr other) = absurd (few-vector (vector_of k holey.item) (with_below (normal_known k) item set holey.item) (vector_of-IsVector k holey.item normal)
        (λ v. sym (ap (λ (b : Bool). (b && set v) || normal_known k holey.item v) other)) holey.holes)

-- what the item lacks of a set, all items lack
pub more_than_all : {limit : ℕ} (k : Normal) (set : Versions) (item : Name) (vector : List AuthorColumn) → IsNormal limit k → Lacks (vector_has (vector_of k item)) set → IsSame (vector_has vector) (both set (vector_has (vector_of k item))) → IsSame (vector_has vector) (vector_has k.all) → ⊥
more_than_all k set item vector normal lacks grown same =
    false≢true (sym lacks.is_out ∙ covers_all k item lacks.version normal (sym (same lacks.version) ∙ grown lacks.version ∙ ap (λ (b : Bool). b || vector_has (vector_of k item) lacks.version) lacks.is_in))

-- what is in neither of two sets is not in the second
pub lacks_second : (first second set : Versions) → Lacks (both first second) set → Lacks second set
lacks_second first second set lacks = grind (arith, or_parts)
