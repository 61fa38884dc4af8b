use Rattle.std.proofs.Common.{◌≡◌, ◌<◌, ◌≤◌, ◌+◌, ◌⊎◌, ℕ, suc, Bool, true, false, ◌||◌, ◌&&◌, List, [], ◌∷◌, ◌++◌, length, All, Contains, refl, ap, sym, ◌∙◌, subst, arith, inl, inr}
use Rattle.mr_itemset.proofs.Names.{All-contains, All-contains_itself, All-head, All-tail, All-weaker, AreSame, AuthorColumn, Contains-cases, Contains-here}
use Rattle.mr_itemset.proofs.Names.{Contains-there, CountsNew, Covers, HasHoleyItem, HasMore, HasTooManyHoles, IsDistinct-cons, IsNormal, IsSame, Lacks}
use Rattle.mr_itemset.proofs.Names.{Listed, ListsTooMany, Name, Normal, Versions, cases_Bool, eq_by_cmp_equiv, false≢true, few-vector, items_of}
use Rattle.mr_itemset.proofs.Names.{length-append, length-le_from_is_member, length-map, list_any, list_any-append, name_eq, name_eq-itself}
use Rattle.mr_itemset.proofs.Names.{name_eq-symmetric, names_total, normal_known, or_cases, or_parts, vector_has, vector_of, with_below, with_each}
use Rattle.mr_forms.specs.Sets.{both}
use Rattle.mr_itemset.proofs.NormalLemmas.{same_name, top, free-above, vector_in-has, vector_in-unlisted}
use Rattle.mr_itemset.proofs.LimitLemmas.{any_all}
use Rattle.mr_itemset.proofs.ItemLemmas.{same_tests, vector_of-IsVector, covers_all, item_from_holey}
use Rattle.mr_itemset.proofs.RoomLemmas.{none_by_recursion, items_distinct}

or_right : (a b : Bool) → b ≡ true → (a || b) ≡ true
or_right a b e = grind arith

-- an item is among the first or the others
pub among_listed : (a b : Bool) → b ≡ true → (a || b) ≡ true
among_listed a b e = or_right a b e

pub among_first : (a b : Bool) → a ≡ true → (a || b) ≡ true
among_first a b e = rw e refl

or_left : (a b : Bool) → a ≡ true → (a || b) ≡ true
or_left a b e = rw e refl

-- ---- which items

any_flip : (items : List Name) (i : Name) → list_any (λ item. name_eq item i) items ≡ list_any (name_eq i) items
any_flip [] i = refl
any_flip (j ∷ js) i = ap (λ (b : Bool). b || list_any (λ item. name_eq item i) js) (name_eq-symmetric j i) ∙ ap (λ (b : Bool). name_eq i j || b) (any_flip js i)

any_contained : (q : Name) (ys : List Name) → Contains ys q → list_any (name_eq q) ys ≡ true
any_contained q [] there = let within = there.1 in absurd (omega arith)
any_contained q (y ∷ ys) there = grind (arith, any_contained q ys, Contains-cases, or_left, name_eq-itself, or_right)

-- the listed item of this name
pub listed_item : (q : Name) (xs : List Listed) → list_any (name_eq q) (items_of xs) ≡ true → (x : Listed) × (Contains xs x × (q ≡ x.item))
listed_item q [] any = absurd (false≢true any)
listed_item q (x ∷ xs) any = go (or_cases (name_eq q x.item) (list_any (name_eq q) (items_of xs)) any) (λ there. listed_item q xs there)
  where
    go : (name_eq q x.item ≡ true) ⊎ (list_any (name_eq q) (items_of xs) ≡ true) → (list_any (name_eq q) (items_of xs) ≡ true → (y : Listed) × (Contains xs y × (q ≡ y.item))) → (y : Listed) × (Contains (x ∷ xs) y × (q ≡ y.item))
    go (inl here) rest = (x, (Contains-here x xs, same_name q x.item here))
    go (inr there) rest = let found = rest there in (found.0, (Contains-there x found.0 xs found.1.0, found.1.1))

-- ---- holes

-- an item whose vector would have too many is among these
pub holey_each : {limit : ℕ} (k : Normal) (items : List Name) (set : Versions) (item : Name) → IsNormal limit k → Contains items item → HasHoleyItem (with_below (normal_known k) item set) → HasHoleyItem (with_each (normal_known k) items set)
holey_each k items set item normal has holey = record {
  item = item;
  holes = subst HasTooManyHoles (same_tests (both set (vector_has (vector_of k item))) (with_each (normal_known k) items set item)
      (λ v. ap (λ (b : Bool). (b && set v) || normal_known k item v) (sym (any_flip items item ∙ any_contained item items has))))
      (item_from_holey k set item normal holey);
}

none_holds : (f : Name → Bool) (P : Name → Type 0) (items : List Name) → list_any f items ≡ true → All (λ i. ¬ P i) items → ((i : Name) → f i ≡ true → P i) → ⊥
none_holds f P [] any all holds = false≢true any
none_holds f P (i ∷ is) any all holds = go (or_cases (f i) (list_any f is) any) (λ there. none_holds f P is there (All-tail (λ j. ¬ P j) i is all) holds)
  where
    go : (f i ≡ true) ⊎ (list_any f is ≡ true) → (list_any f is ≡ true → ⊥) → ⊥
    go (inl here) rest = All-head (λ j. ¬ P j) i is all (holds i here)
    go (inr there) rest = rest there

pub not_holey_each : {limit : ℕ} (k : Normal) (items : List Name) (set : Versions) → IsNormal limit k → All (λ item. ¬ HasHoleyItem (with_below (normal_known k) item set)) items → HasHoleyItem (with_each (normal_known k) items set) → ⊥
not_holey_each k items set normal none holey = go (cases_Bool (list_any (λ item. name_eq item holey.item) items))
  where
    go : (list_any (λ item. name_eq item holey.item) items ≡ true) ⊎ (list_any (λ item. name_eq item holey.item) items ≡ false) → ⊥
    go (inl any) = none_holds (λ item. name_eq item holey.item) (λ item. HasHoleyItem (with_below (normal_known k) item set)) items any none (λ item here. record {
      item = holey.item;
      holes = subst HasTooManyHoles (same_tests (with_each (normal_known k) items set holey.item) (with_below (normal_known k) item set holey.item)
          (λ v. ap (λ (b : Bool). (b && set v) || normal_known k holey.item v) (any ∙ sym here))) holey.holes;
    })
    go (inr other) = few-vector (vector_of k holey.item) (with_each (normal_known k) items set holey.item) (vector_of-IsVector k holey.item normal)
        (λ v. sym (ap (λ (b : Bool). (b && set v) || normal_known k holey.item v) other)) holey.holes

-- ---- a count

pub counts_none : {limit : ℕ} (k : Normal) → IsNormal limit k → CountsNew k [] 0
counts_none k normal = record {
  together = items_of k.listed;
  distinct = items_distinct k.listed normal.rising;
  members = λ q. refl;
  many = let same : length (items_of k.listed) ≡ length k.listed = length-map k.listed (λ x. x.item) in omega arith;
}

any_push : (q item : Name) (items : List Name) → list_any (name_eq q) (items ++ item ∷ []) ≡ (list_any (name_eq q) items || (name_eq q item || false))
any_push q item items = list_any-append (name_eq q) items (item ∷ [])

pub counts_one : (k : Normal) (items : List Name) (item : Name) (n : ℕ) → list_any (name_eq item) items ≡ false → list_any (name_eq item) (items_of k.listed) ≡ false → CountsNew k items n → CountsNew k (items ++ item ∷ []) (n + 1)
counts_one k items item n fresh free c = record {
  together = item ∷ c.together;
  distinct = IsDistinct-cons name_eq item c.together (none_by_recursion item c.together (c.members item ∙ rw (fresh, free) refl)) c.distinct;
  members = λ q.
      ap (λ (b : Bool). name_eq q item || b) (c.members q)
      ∙ exchange (name_eq q item) (list_any (name_eq q) items) (list_any (name_eq q) (items_of k.listed))
      ∙ sym (ap (λ (b : Bool). b || list_any (name_eq q) (items_of k.listed)) (any_push q item items));
  many = let many = c.many in omega arith;
}
  where
    exchange : (a b c : Bool) → (a || (b || c)) ≡ ((b || (a || false)) || c)
    exchange true true c = refl
    exchange true false c = refl
    exchange false true c = refl
    exchange false false c = refl

pub counts_known : (k : Normal) (items : List Name) (item : Name) (n : ℕ) → (list_any (name_eq item) items || list_any (name_eq item) (items_of k.listed)) ≡ true → CountsNew k items n → CountsNew k (items ++ item ∷ []) n
counts_known k items item n known c = grind (arith, cases_Bool, any_push, same_name)

-- ---- too many items

same_both : (x a : Bool) → (x ≡ true → a ≡ true) → (a ≡ true → x ≡ true) → x ≡ a
same_both x a up down = grind arith

pub many_each : {limit : ℕ} (k : Normal) (items : List Name) (set : Versions) (n : ℕ) → IsNormal limit k → Lacks (vector_has k.all) set → CountsNew k items n → limit < length k.listed + n → ListsTooMany limit (with_each (normal_known k) items set)
many_each k items set n normal lacks c over = record {
  all = vector_has k.all;
  items = c.together;
  distinct = c.distinct;
  more = All-weaker (Contains c.together) (λ i. ¬ IsSame (with_each (normal_known k) items set i) (vector_has k.all))
      (λ q has. theirs q (or_cases (list_any (name_eq q) items) (list_any (name_eq q) (items_of k.listed)) (sym (c.members q) ∙ any_contained q c.together has))) c.together (All-contains_itself c.together);
  rest = λ i none v.
      let parts = or_parts (list_any (name_eq i) items) (list_any (name_eq i) (items_of k.listed)) (sym (c.members i) ∙ none) in
      ap (λ (b : Bool). (b && set v) || normal_known k i v) (any_flip items i ∙ parts.0) ∙ ap (λ (d : List AuthorColumn). vector_has d v) (vector_in-unlisted k.all k.listed i parts.1);
  many = let many = c.many in omega arith;
}
  where
    theirs : (q : Name) → (list_any (name_eq q) items ≡ true) ⊎ (list_any (name_eq q) (items_of k.listed) ≡ true) → ¬ IsSame (with_each (normal_known k) items set q) (vector_has k.all)
    theirs q (inl given) same = false≢true (sym lacks.is_out ∙ sym (same lacks.version) ∙ gained)
      where
        gained : with_each (normal_known k) items set q lacks.version ≡ true
        gained = rw (any_flip items q ∙ given, lacks.is_in) refl
    theirs q (inr listed) same =
        let found = listed_item q k.listed listed in
        let more = All-contains (HasMore k.all) k.listed found.0 normal.more found.1.0 in
        more.more (λ v. same_both (vector_has found.0.vector v) (vector_has k.all v)
        (λ is_in. sym (same v) ∙ or_right (list_any (λ item. name_eq item q) items && set v) (normal_known k q v)
        (ap (λ (j : Name). normal_known k j v) found.1.1 ∙ ap (λ (d : List AuthorColumn). vector_has d v) (vector_in-has k.all k.listed found.0 normal.rising found.1.0) ∙ is_in))
        (more.covers v))

-- all but some items have what all had
all_each : {limit : ℕ} (k : Normal) (items : List Name) (set : Versions) (many : ListsTooMany limit (with_each (normal_known k) items set)) (v : Name) → vector_has k.all v ≡ many.all v
all_each k items set many v =
    sym (ap (λ (b : Bool). (b && set v) || normal_known k (record { author = 0; counter = suc (top many.items + (top items + top (items_of k.listed))) }) v)
    (any_flip items (record { author = 0; counter = suc (top many.items + (top items + top (items_of k.listed))) }) ∙ free-above (suc (top many.items + (top items + top (items_of k.listed)))) items (omega arith))
    ∙ ap (λ (c : List AuthorColumn). vector_has c v) (vector_in-unlisted k.all k.listed (record { author = 0; counter = suc (top many.items + (top items + top (items_of k.listed))) }) (free-above (suc (top many.items + (top items + top (items_of k.listed)))) (items_of k.listed) (omega arith))))
    ∙ many.rest (record { author = 0; counter = suc (top many.items + (top items + top (items_of k.listed))) }) (free-above (suc (top many.items + (top items + top (items_of k.listed)))) many.items (omega arith)) v

-- few of which something else is known than of all
few_of : {limit : ℕ} (k : Normal) (items : List Name) (set : Versions) (others : List Name) → ((q : Name) → IsSame (with_each (normal_known k) items set q) (vector_has k.all) ⊎ (list_any (name_eq q) others ≡ true)) → length others ≤ limit → ListsTooMany limit (with_each (normal_known k) items set) → ⊥
few_of k items set others each few many =
    let fits = length-le_from_is_member (eq_by_cmp_equiv names_total) many.items others many.distinct (λ q any. pick q any (each q)) in
    let over = many.many in
    omega arith
  where
    pick : (q : Name) → list_any (name_eq q) many.items ≡ true → IsSame (with_each (normal_known k) items set q) (vector_has k.all) ⊎ (list_any (name_eq q) others ≡ true) → list_any (name_eq q) others ≡ true
    pick q any (inl same) = absurd (any_all (λ i. ¬ IsSame (with_each (normal_known k) items set i) many.all) many.items q many.more any (λ v. same v ∙ all_each k items set many v))
    pick q any (inr other) = other

-- of an item that is neither given nor listed nothing else is known
same_or_among : (k : Normal) (items : List Name) (set : Versions) (q : Name) → IsSame (with_each (normal_known k) items set q) (vector_has k.all) ⊎ ((list_any (name_eq q) items || list_any (name_eq q) (items_of k.listed)) ≡ true)
same_or_among k items set q = go (cases_Bool (list_any (name_eq q) items || list_any (name_eq q) (items_of k.listed)))
  where
    go : ((list_any (name_eq q) items || list_any (name_eq q) (items_of k.listed)) ≡ true) ⊎ ((list_any (name_eq q) items || list_any (name_eq q) (items_of k.listed)) ≡ false) → IsSame (with_each (normal_known k) items set q) (vector_has k.all) ⊎ ((list_any (name_eq q) items || list_any (name_eq q) (items_of k.listed)) ≡ true)
    go (inl among) = inr among
    go (inr apart) =
        let parts = or_parts (list_any (name_eq q) items) (list_any (name_eq q) (items_of k.listed)) apart in
        inl (λ v. ap (λ (b : Bool). (b && set v) || normal_known k q v) (any_flip items q ∙ parts.0) ∙ ap (λ (c : List AuthorColumn). vector_has c v) (vector_in-unlisted k.all k.listed q parts.1))

pub few_counted : {limit : ℕ} (k : Normal) (items : List Name) (set : Versions) (n : ℕ) → CountsNew k items n → length k.listed + n ≤ limit → ListsTooMany limit (with_each (normal_known k) items set) → ⊥
few_counted k items set n c few = few_of k items set c.together (λ q. go q (same_or_among k items set q)) (let many = c.many in omega arith)
  where
    go : (q : Name) → IsSame (with_each (normal_known k) items set q) (vector_has k.all) ⊎ ((list_any (name_eq q) items || list_any (name_eq q) (items_of k.listed)) ≡ true) → IsSame (with_each (normal_known k) items set q) (vector_has k.all) ⊎ (list_any (name_eq q) c.together ≡ true)
    go q (inl same) = inl same
    go q (inr among) = inr (c.members q ∙ among)

pub few_given : {limit : ℕ} (k : Normal) (items : List Name) (set : Versions) → length k.listed + length items ≤ limit → ListsTooMany limit (with_each (normal_known k) items set) → ⊥
few_given k items set few = few_of k items set (items ++ items_of k.listed) (λ q. go q (same_or_among k items set q)) (let same : length (items_of k.listed) ≡ length k.listed = length-map k.listed (λ x. x.item) in simp length-append (omega arith))
  where
    go : (q : Name) → IsSame (with_each (normal_known k) items set q) (vector_has k.all) ⊎ ((list_any (name_eq q) items || list_any (name_eq q) (items_of k.listed)) ≡ true) → IsSame (with_each (normal_known k) items set q) (vector_has k.all) ⊎ (list_any (name_eq q) (items ++ items_of k.listed) ≡ true)
    go q (inl same) = inl same
    go q (inr among) = inr (list_any-append (name_eq q) items (items_of k.listed) ∙ among)

-- ---- one item after another

pub each_more : (k old new : Name → Name → Bool) (items : List Name) (item : Name) (set : Versions) → AreSame old (with_each k items set) → AreSame new (with_below old item set) → AreSame new (with_each k (items ++ item ∷ []) set)
each_more k old new items item set before after i v = grind (arith, list_any-append)

-- ---- where all items have the set

nothing_each : (b s a o : Bool) → (s ≡ true → a ≡ true) → (a ≡ true → o ≡ true) → o ≡ ((b && s) || o)
nothing_each b s a o h up = grind (arith, or_right)

pub covered_each : {limit : ℕ} (k : Normal) (items : List Name) (set : Versions) → IsNormal limit k → Covers (vector_has k.all) set → AreSame (normal_known k) (with_each (normal_known k) items set)
covered_each k items set normal covers i v = nothing_each (list_any (λ item. name_eq item i) items) (set v) (vector_has k.all v) (normal_known k i v) (covers v) (covers_all k i v normal)
