use Rattle.std.proofs.Common.{◌≡◌, ◌≢◌, ◌<◌, ◌≤◌, ◌⊎◌, ℕ, Bool, true, false, ◌||◌, ◌&&◌, List, [], ◌∷◌, ◌++◌, length, get_or, Some, None, IfSome, All, AllPairs, map, refl, ap, sym, ◌∙◌, subst, arith, inl, inr}
use Rattle.mr_itemset.proofs.Names.{Alike, All-cons, All-head, All-map, All-nil, All-push, All-tail, All-weaker, AllByRecursion, AllPairs-head, AllPairs-tail}
use Rattle.mr_itemset.proofs.Names.{AreApart, AreInOrder, AreListable, AreNormalOf, AuthorColumn, ComesFirst, FillsBefore, HasMore, HasOneNormalForm}
use Rattle.mr_itemset.proofs.Names.{IsBefore, IsFullBefore, IsGreater, IsNormal, IsSame, Less, Listed, MAX_ITEMS, Name, Normal, Part}
use Rattle.std.specs.List.Sorted.{IsStrictlySortedBy}
use Rattle.mr_itemset.proofs.Names.{all_grouped, cases_Bool, cases_lt, false≢true, grouped, is_eq, is_of, length_push, list_any, list_any-append, name_cmp}
use Rattle.mr_itemset.proofs.Names.{name_eq, name_eq-symmetric, names_total, or_cases, said, takes, vector_has, vector_in, vectors_same}
use Rattle.std.proofs.lemmas.List.Kept.{AllPairs-cons}
use Rattle.mr_itemset.proofs.NormalLemmas.{same_name}
use Rattle.mr_itemset.proofs.FormLemmas.{normal_form_unique}
use Rattle.mr_itemset.proofs.GroupLemmas.{all_grouped_by, pairs_grouped_by, taken, untaken}

-- a group's items, with their versions
abbrev pub part_of_group : Alike → Part
part_of_group g = record { items = Some g.items; versions = vector_has g.vector }

-- ---- the groups so far

-- every item of the group is lower
abbrev pub EndsBefore : Name → Alike → Type 0
EndsBefore item g = All (λ i. name_cmp i item ≡ Less) g.items

-- groups of so many items at most, each of one vector beyond that of all items
pub record AreGroups (all : List AuthorColumn) (most : ℕ) (gs : List Alike) : Type 0 where
  pub some : All (λ g. g.items ≢ []) gs
  pub few : All (λ g. length g.items ≤ most) gs
  pub rising : All (λ g. IsStrictlySortedBy name_cmp g.items) gs
  pub greater : All (λ g. (item : Name) → HasMore all (record { item = item; vector = g.vector })) gs
  pub by_first : AllPairs (λ g h. ComesFirst (Some g.items) (Some h.items)) gs
  pub pieces : AllPairs (λ g h. g.vector ≡ h.vector → FillsBefore most g.items h.items) gs
  pub apart : AllPairs (λ g h. AreApart (Some g.items) (Some h.items)) gs

not_empty : (xs : List Name) (x : Name) → xs ++ x ∷ [] ≢ []
not_empty [] x e = cc
not_empty (y ∷ ys) x e = cc

each_more : (P : Name → Type 0) (xs : List Name) (x : Name) → AllByRecursion P xs → P x → AllByRecursion P (xs ++ x ∷ [])
each_more P [] x each one = (one, tt)
each_more P (y ∷ ys) x each one = (each.0, each_more P ys x each.1 one)

sorted_more : (xs : List Name) (x : Name) → IsStrictlySortedBy name_cmp xs → All (λ i. name_cmp i x ≡ Less) xs → IsStrictlySortedBy name_cmp (xs ++ x ∷ [])
unfolding IsStrictlySortedBy
sorted_more [] x sorted below = (tt, tt)
sorted_more (y ∷ ys) x sorted below = (
  each_more (λ i. name_cmp y i ≡ Less) ys x sorted.0 (All-head (λ i. name_cmp i x ≡ Less) y ys below),
  sorted_more ys x sorted.1 (All-tail (λ i. name_cmp i x ≡ Less) y ys below),
)

first_last : (g h : List Name) (x : Name) → ComesFirst (Some g) (Some h) → ComesFirst (Some g) (Some (h ++ x ∷ []))
first_last g h x before = grind arith

first_stays : (g h : List Name) (x : Name) → ComesFirst (Some g) (Some h) → ComesFirst (Some (g ++ x ∷ [])) (Some h)
first_stays g h x before = grind arith

first_before : (g : List Name) (x : Name) → g ≢ [] → All (λ i. name_cmp i x ≡ Less) g → ComesFirst (Some g) (Some (x ∷ []))
first_before g x some below = grind (arith, All-head)

-- a lower item is not this one
not_among : (g : List Name) (x : Name) → All (λ i. name_cmp i x ≡ Less) g → list_any (λ item. name_eq item x) g ≡ false
not_among [] x below = refl
not_among (i ∷ is) x below = rw (All-head (λ j. name_cmp j x ≡ Less) i is below) (not_among is x (All-tail (λ j. name_cmp j x ≡ Less) i is below))

is_of-push : (g : List Name) (x i : Name) → is_of (Some (g ++ x ∷ [])) i ≡ (is_of (Some g) i || name_eq x i)
is_of-push g x i = grind (arith, list_any-append)

apart_last : (g h : List Name) (x : Name) → All (λ i. name_cmp i x ≡ Less) g → AreApart (Some g) (Some h) → AreApart (Some g) (Some (h ++ x ∷ []))
apart_last g h x below apart i among = grind (arith, is_of-push, cases_Bool, false≢true, not_among, same_name)

apart_first : (g h : List Name) (x : Name) → All (λ i. name_cmp i x ≡ Less) h → AreApart (Some g) (Some h) → AreApart (Some (g ++ x ∷ [])) (Some h)
apart_first g h x below apart i among = go (or_cases (is_of (Some g) i) (name_eq x i) (sym (is_of-push g x i) ∙ among))
  where
    go : (is_of (Some g) i ≡ true) ⊎ (name_eq x i ≡ true) → is_of (Some h) i ≡ false
    go (inl old) = apart i old
    go (inr same) = ap (λ (j : Name). is_of (Some h) j) (sym (same_name x i same)) ∙ not_among h x below

apart_alone : (g : List Name) (x : Name) → All (λ i. name_cmp i x ≡ Less) g → AreApart (Some g) (Some (x ∷ []))
apart_alone g x below i among = go (cases_Bool (name_eq x i))
  where
    go : (name_eq x i ≡ true) ⊎ (name_eq x i ≡ false) → is_of (Some (x ∷ [])) i ≡ false
    go (inl same) = absurd (false≢true (sym (not_among g x below) ∙ ap (λ (j : Name). is_of (Some g) j) (same_name x i same) ∙ among))
    go (inr other) = rw other refl

-- what holds of each item holds of one that is among them
among : (P : Name → Type 0) (items : List Name) (i : Name) → All P items → list_any (name_eq i) items ≡ true → P i
among P [] i each any = absurd (false≢true any)
among P (x ∷ xs) i each any = go (or_cases (name_eq i x) (list_any (name_eq i) xs) any) (λ there. among P xs i (All-tail P x xs each) there)
  where
    go : (name_eq i x ≡ true) ⊎ (list_any (name_eq i) xs ≡ true) → (list_any (name_eq i) xs ≡ true → P i) → P i
    go (inl same) rest = subst P (sym (same_name i x same)) (All-head P x xs each)
    go (inr there) rest = rest there

-- a full group is still full as the next one gets a higher item
fills_push : (most : ℕ) (g h : List Name) (x : Name) → All (λ i. name_cmp i x ≡ Less) g → FillsBefore most g h → FillsBefore most g (h ++ x ∷ [])
fills_push most g h x low fills = record {
  full = fills.full;
  below = λ i j a b. go i j a (or_cases (list_any (name_eq j) h) (name_eq j x || false) (sym (list_any-append (name_eq j) h (x ∷ [])) ∙ b));
}
  where
    go : (i j : Name) → list_any (name_eq i) g ≡ true → (list_any (name_eq j) h ≡ true) ⊎ ((name_eq j x || false) ≡ true) → name_cmp i j ≡ Less
    go i j a (inl old) = fills.below i j a old
    go i j a (inr new) = elim (or_cases (name_eq j x) false new) [
      | inl same ↦ rw (same_name j x same) (among (λ i. name_cmp i x ≡ Less) g i low a)
      | inr never ↦ absurd (false≢true never)
    ]

-- and so it is before a new group
fills_alone : (most : ℕ) (g : List Name) (x : Name) → All (λ i. name_cmp i x ≡ Less) g → length g ≤ most → ¬ (length g < most) → FillsBefore most g (x ∷ [])
fills_alone most g x low few full = record {
  full = full_is (cases_lt (length g) most);
  below = λ i j a b. go i j a (or_cases (name_eq j x) false b);
}
  where
    full_is : (length g < most) ⊎ (most ≤ length g) → length g ≡ most
    full_is (inl less) = absurd (full less)
    full_is (inr le) = omega arith

    go : (i j : Name) → list_any (name_eq i) g ≡ true → (name_eq j x ≡ true) ⊎ (false ≡ true) → name_cmp i j ≡ Less
    go i j a (inl same) = rw (same_name j x same) (among (λ i. name_cmp i x ≡ Less) g i low a)
    go i j a (inr never) = absurd (false≢true never)

groups_more : (all : List AuthorColumn) (most : ℕ) (gs : List Alike) (x : Listed) → 1 ≤ most → AreGroups all most gs → HasMore all x → All (EndsBefore x.item) gs → AreGroups all most (grouped most gs x)
unfolding IsStrictlySortedBy
groups_more all most gs x room are more below = record {
  some = all_grouped_by most (EndsBefore x.item) (λ g. g.items ≢ []) gs x below are.some (λ e. cc) (λ g low same old. not_empty g.items x.item);
  few = all_grouped_by most (EndsBefore x.item) (λ g. length g.items ≤ most) gs x below are.few (omega arith) (λ g low same few. let less = (taken most g x.vector same).1 in let grown = length_push g.items x.item in omega arith);
  rising = all_grouped_by most (EndsBefore x.item) (λ g. IsStrictlySortedBy name_cmp g.items) gs x below are.rising (tt, tt) (λ g low same sorted. sorted_more g.items x.item sorted low);
  greater = all_grouped_by most (EndsBefore x.item) (λ g. (item : Name) → HasMore all (record { item = item; vector = g.vector })) gs x below are.greater (λ item. record { vector_ok = more.vector_ok; covers = more.covers; more = more.more }) (λ g low same old. old);
  by_first = pairs_grouped_by most (λ g. EndsBefore x.item g × (g.items ≢ [])) (λ g h. ComesFirst (Some g.items) (Some h.items)) gs x sides are.by_first (λ g s other. first_before g.items x.item s.1 s.0) (λ g h s t before. first_last g.items h.items x.item before) (λ g h s t same before. first_stays g.items h.items x.item before);
  pieces = pairs_grouped_by most (λ g. EndsBefore x.item g × (length g.items ≤ most)) (λ g h. g.vector ≡ h.vector → FillsBefore most g.items h.items) gs x small are.pieces
      (λ g s other e. fills_alone most g.items x.item s.0 s.1 (untaken most g x.vector other e))
      (λ g h s t fills e. fills_push most g.items h.items x.item s.0 (fills e))
      (λ g h s t same fills e. let less = (taken most g x.vector same).1 in let full = (fills e).full in absurd (omega arith));
  apart = pairs_grouped_by most (EndsBefore x.item) (λ g h. AreApart (Some g.items) (Some h.items)) gs x below are.apart (λ g s other. apart_alone g.items x.item s) (λ g h s t r. apart_last g.items h.items x.item s r) (λ g h s t same r. apart_first g.items h.items x.item t r);
}
  where
    sides : All (λ g. EndsBefore x.item g × (g.items ≢ [])) gs
    sides j d within = (below j d within, are.some j d within)

    small : All (λ g. EndsBefore x.item g × (length g.items ≤ most)) gs
    small j d within = (below j d within, are.few j d within)

-- the next item is above those of the groups, and above this one
next_below : (most : ℕ) (gs : List Alike) (x y : Listed) → IsBefore x y → All (EndsBefore x.item) gs → All (EndsBefore y.item) (grouped most gs x)
next_below most gs x y before below = all_grouped_by most (EndsBefore x.item) (EndsBefore y.item) gs x below
    (All-weaker (EndsBefore x.item) (EndsBefore y.item) (λ g low k d within. names_total.trans _ x.item y.item (low k d within) before) gs below)
    (All-cons (λ i. name_cmp i y.item ≡ Less) x.item [] before (All-nil (λ i. name_cmp i y.item ≡ Less)))
    (λ g low same new. All-push (λ i. name_cmp i y.item ≡ Less) g.items x.item new before)

-- rising items that are listed with more than all make groups
pub all_groups : (all : List AuthorColumn) (most : ℕ) (gs : List Alike) (xs : List Listed) → 1 ≤ most → AreGroups all most gs → AllPairs IsBefore xs → All (HasMore all) xs → All (λ y. All (EndsBefore y.item) gs) xs → AreGroups all most (all_grouped most gs xs)
all_groups all most gs [] room are rising more below = are
all_groups all most gs (x ∷ xs) room are rising more below =
    all_groups all most (grouped most gs x) xs room (groups_more all most gs x room are (All-head (HasMore all) x xs more) (All-head (λ y. All (EndsBefore y.item) gs) x xs below)) (AllPairs-tail IsBefore x xs rising) (All-tail (HasMore all) x xs more)
    (λ k d within. next_below most gs x (get_or xs k d) (AllPairs-head IsBefore x xs rising k d within) (All-head (λ y. All (EndsBefore y.item) gs) x xs below))

pub no_groups : (all : List AuthorColumn) (most : ℕ) → AreGroups all most []
no_groups all most = grind (arith, All-nil)

-- ---- what the groups say

with_or : (a b c r : Bool) → (((a || b) && c) || r) ≡ ((b && c) || ((a && c) || r))
with_or a b c r = grind arith

or_turn : (p q r : Bool) → (p || (q || r)) ≡ (q || (p || r))
or_turn p q r = grind arith

or_join : (s q r : Bool) → (s || (q || r)) ≡ ((q || s) || r)
or_join s q r = grind arith

one_says : (a b : Bool) → (((a || false) && b) || false) ≡ ((a && b) || false)
one_says a b = grind arith

said_grouped : (most : ℕ) (gs : List Alike) (x : Listed) (i v : Name) → said (map part_of_group (grouped most gs x)) i v ≡ ((name_eq x.item i && vector_has x.vector v) || said (map part_of_group gs) i v)
said_grouped most [] x i v = one_says (name_eq x.item i) (vector_has x.vector v)
said_grouped most (g ∷ gs) x i v = go (cases_Bool (takes most g x.vector)) (said_grouped most gs x i v)
  where
    go : (takes most g x.vector ≡ true) ⊎ (takes most g x.vector ≡ false) → said (map part_of_group (grouped most gs x)) i v ≡ ((name_eq x.item i && vector_has x.vector v) || said (map part_of_group gs) i v) → said (map part_of_group (grouped most (g ∷ gs) x)) i v ≡ ((name_eq x.item i && vector_has x.vector v) || said (map part_of_group (g ∷ gs)) i v)
    go (inl same) rest =
        rw (same, is_of-push g.items x.item i)
        (with_or (is_of (Some g.items) i) (name_eq x.item i) (vector_has g.vector v) (said (map part_of_group gs) i v)
        ∙ ap (λ (c : List AuthorColumn). (name_eq x.item i && vector_has c v) || ((is_of (Some g.items) i && vector_has g.vector v) || said (map part_of_group gs) i v)) (taken most g x.vector same).0)
    go (inr other) rest =
        rw (other, rest) (or_turn (is_of (Some g.items) i && vector_has g.vector v) (name_eq x.item i && vector_has x.vector v) (said (map part_of_group gs) i v))

-- what the listed items say
abbrev says : List Listed → Name → Name → Bool
says xs i v = list_any (λ x. name_eq x.item i && vector_has x.vector v) xs

said_all : (most : ℕ) (gs : List Alike) (xs : List Listed) (i v : Name) → said (map part_of_group (all_grouped most gs xs)) i v ≡ (says xs i v || said (map part_of_group gs) i v)
said_all most gs [] i v = refl
said_all most gs (x ∷ xs) i v =
    said_all most (grouped most gs x) xs i v ∙ ap (λ b. says xs i v || b) (said_grouped most gs x i v)
    ∙ or_join (says xs i v) (name_eq x.item i && vector_has x.vector v) (said (map part_of_group gs) i v)

says_none : (xs : List Listed) (i v : Name) → All (λ y. name_cmp i y.item ≡ Less) xs → says xs i v ≡ false
says_none [] i v above = refl
says_none (x ∷ xs) i v above =
    let other : name_eq x.item i ≡ false = name_eq-symmetric x.item i ∙ ap is_eq (All-head (λ y. name_cmp i y.item ≡ Less) x xs above) in
    rw other (says_none xs i v (All-tail (λ y. name_cmp i y.item ≡ Less) x xs above))

with_all : (a p : Bool) → (a ≡ true → p ≡ true) → (a || ((p || false) || false)) ≡ p
with_all true p covers = sym (covers refl)
with_all false true covers = refl
with_all false false covers = refl

says_known : (all : List AuthorColumn) (xs : List Listed) (i v : Name) → AllPairs IsBefore xs → All (HasMore all) xs → (vector_has all v || (says xs i v || false)) ≡ vector_has (vector_in all xs i) v
says_known all [] i v rising more = or_false (vector_has all v)
  where
    or_false : (a : Bool) → (a || (false || false)) ≡ a
    or_false true = refl
    or_false false = refl
says_known all (x ∷ xs) i v rising more = go (cases_Bool (name_eq x.item i)) (says_known all xs i v (AllPairs-tail IsBefore x xs rising) (All-tail (HasMore all) x xs more))
  where
    go : (name_eq x.item i ≡ true) ⊎ (name_eq x.item i ≡ false) → (vector_has all v || (says xs i v || false)) ≡ vector_has (vector_in all xs i) v → (vector_has all v || (says (x ∷ xs) i v || false)) ≡ vector_has (vector_in all (x ∷ xs) i) v
    go (inl same) rest =
        let none : says xs i v ≡ false = says_none xs i v (All-weaker (IsBefore x) (λ y. name_cmp i y.item ≡ Less) (λ y before. rw (← same_name x.item i same) before) xs (AllPairs-head IsBefore x xs rising)) in
        rw (same, none) (with_all (vector_has all v) (vector_has x.vector v) (λ has. (All-head (HasMore all) x xs more).covers v has))
    go (inr other) rest = rw other rest

-- ---- the normal form of a knowledge

AllPairs-map : {X Y : Type 0} (R : Y → Y → Type 0) (f : X → Y) (xs : List X) → AllPairs (λ a b. R (f a) (f b)) xs → AllPairs R (map f xs)
AllPairs-map R f [] all = λ i j d less within. absurd (omega arith)
AllPairs-map R f (x ∷ xs) all =
    AllPairs-cons R (f x) (map f xs) (All-map (R (f x)) f xs (AllPairs-head (λ a b. R (f a) (f b)) x xs all)) (AllPairs-map R f xs (AllPairs-tail (λ a b. R (f a) (f b)) x xs all))

abbrev groups_in : Normal → List Alike
groups_in k = all_grouped MAX_ITEMS [] k.listed

-- what all items have, and then the groups
abbrev pub parts_in : Normal → List Part
parts_in k = (record { items = None; versions = vector_has k.all }) ∷ map part_of_group (groups_in k)

are_groups : {limit : ℕ} (k : Normal) → IsNormal limit k → AreGroups k.all MAX_ITEMS (groups_in k)
are_groups k normal = all_groups k.all MAX_ITEMS [] k.listed (omega arith) (no_groups k.all MAX_ITEMS) normal.rising normal.more (λ j d within. All-nil (EndsBefore (get_or k.listed j d).item))

in_order : {limit : ℕ} (k : Normal) → IsNormal limit k → AreInOrder (parts_in k)
in_order k normal =
    let are = are_groups k normal in
    record {
      listable = All-cons (λ p. IfSome p.items AreListable) (record { items = None; versions = vector_has k.all }) (map part_of_group (groups_in k)) tt
          (All-map (λ p. IfSome p.items AreListable) part_of_group (groups_in k) (λ j d within. record { some = are.some j d within; few = are.few j d within; rising = are.rising j d within }));
      in_order = AllPairs-cons (λ p q. ComesFirst p.items q.items) (record { items = None; versions = vector_has k.all }) (map part_of_group (groups_in k))
          (All-map (λ q. ComesFirst None q.items) part_of_group (groups_in k) (λ j d within. tt))
          (AllPairs-map (λ p q. ComesFirst p.items q.items) part_of_group (groups_in k) are.by_first);
    }

pub parts_are_normal : {limit : ℕ} (k : Normal) → IsNormal limit k → AreNormalOf k (parts_in k)
parts_are_normal k normal =
    let are = are_groups k normal in
    record {
      normal = record {
        all = vector_has k.all;
        listed = map part_of_group (groups_in k);
        first = refl;
        in_order = in_order k normal;
        greater = All-map (λ p. IsGreater p.versions (vector_has k.all)) part_of_group (groups_in k) (λ j d within. let more = are.greater j d within (record { author = 0; counter = 0 }) in record { covers = more.covers; more = more.more });
        pieces = AllPairs-map (λ p q. IsSame p.versions q.versions → IsFullBefore MAX_ITEMS p.items q.items) part_of_group (groups_in k)
            (λ i j d less within same. are.pieces i j d less within (vectors_same (get_or (groups_in k) i d).vector (get_or (groups_in k) j d).vector (are.greater i d (omega arith) (record { author = 0; counter = 0 })).vector_ok (are.greater j d within (record { author = 0; counter = 0 })).vector_ok same));
        apart = AllPairs-map (λ p q. AreApart p.items q.items) part_of_group (groups_in k) are.apart;
      };
      same = λ i v. sym (ap (λ b. vector_has k.all v || b) (said_all MAX_ITEMS [] k.listed i v) ∙ says_known k.all k.listed i v normal.rising normal.more);
    }

-- EACH KNOWLEDGE HAS ONE NORMAL FORM
pub one_form : {limit : ℕ} (k : Normal) → IsNormal limit k → HasOneNormalForm k
one_form k normal = record {
  parts = parts_in k;
  are = parts_are_normal k normal;
  one = λ others are. normal_form_unique k others (parts_in k) normal are (parts_are_normal k normal);
}
