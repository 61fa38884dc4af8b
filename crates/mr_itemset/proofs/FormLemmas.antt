use Rattle.std.proofs.Common.{◌≡◌, ◌≢◌, ◌<◌, ◌≤◌, ◌+◌, ◌*◌, ◌⊎◌, ℕ, suc, Bool, true, false, ◌||◌, List, [], ◌∷◌, length, get_or, take, drop, Option, Some, None, All, AllPairs, Contains, IfSome, refl, ap, sym, ◌∙◌, subst, arith, inl, inr}
use Rattle.mr_itemset.proofs.Names.{All-cons, All-contains, All-contains_itself, All-head, All-tail, All-weaker, AllByRecursion, AllPairs-head, AllPairs-tail}
use Rattle.mr_itemset.proofs.Names.{AreAllWith, AreApart, AreInOrder, AreListable, AreNormalOf, ArePartsThat, AreSame, AuthorColumn, ComesFirst}
use Rattle.mr_itemset.proofs.Names.{Contains-cases, Contains-here, Contains-there, FillsBefore, HasNormalVersions, HasPiece, IsFullBefore, IsGreater}
use Rattle.mr_itemset.proofs.Names.{IsNormal, IsNormalPart, IsSame, IsVectorFrom, Less, MAX_ITEMS, Name, Normal, Pairs, Part, Versions}
use Rattle.std.specs.List.Sorted.{IsStrictlySortedBy}
use Rattle.mr_itemset.proofs.Names.{cases_Bool, false≢true, get_or_default, is_of, items_of, list_any, name_cmp, name_eq, name_eq-itself, name_eq-symmetric}
use Rattle.mr_itemset.proofs.Names.{names_total, normal_known, or_cases, or_parts, parts_that-unique, said, tied_itself, vector_eq, vector_has, vector_of}
use Rattle.mr_itemset.proofs.Names.{vectors_Decides, vectors_same}
use Rattle.std.proofs.lemmas.Bool.{or_right}
use Rattle.mr_itemset.specs.ListingLaws.{known_of}
use Rattle.mr_itemset.proofs.NormalLemmas.{same_name, vector_in-unlisted, free-above, top}
use Rattle.mr_itemset.proofs.ItemLemmas.{same_tests, vector_of-IsVector}
use Rattle.mr_itemset.proofs.PieceLemmas.{items_in, joined, joined_has, has_joined, Turn, joined_rising, piece_of, of_piece}

-- ---- rising items with the same members are one list

-- what stands behind a lower item is above it
behind : (x : Name) (xs : List Name) (i : Name) → AllByRecursion (λ z. name_cmp x z ≡ Less) xs → list_any (name_eq i) xs ≡ true → name_cmp x i ≡ Less
behind x [] i above any = absurd (false≢true any)
behind x (z ∷ zs) i above any = grind (arith, behind x zs i above.1, or_cases, same_name)

not_twice : (a b : Name) → name_cmp a b ≡ Less → name_cmp b a ≡ Less → ⊥
not_twice a b ab ba = let round = names_total.trans a b a ab ba in let same = tied_itself names_total a in cc

among_head : (x : Name) (xs : List Name) → list_any (name_eq x) (x ∷ xs) ≡ true
among_head x xs = rw (name_eq-itself x) refl

among_tail : (i x : Name) (xs : List Name) → list_any (name_eq i) xs ≡ true → list_any (name_eq i) (x ∷ xs) ≡ true
among_tail i x xs any = or_right (name_eq i x) (list_any (name_eq i) xs) any

names_unique : (xs ys : List Name) → IsStrictlySortedBy name_cmp xs → IsStrictlySortedBy name_cmp ys → ((i : Name) → list_any (name_eq i) xs ≡ true → list_any (name_eq i) ys ≡ true) → ((i : Name) → list_any (name_eq i) ys ≡ true → list_any (name_eq i) xs ≡ true) → xs ≡ ys
unfolding IsStrictlySortedBy
names_unique [] [] sx sy xy yx = refl
names_unique [] (y ∷ ys) sx sy xy yx = absurd (false≢true (yx y (among_head y ys)))
names_unique (x ∷ xs) [] sx sy xy yx = absurd (false≢true (xy x (among_head x xs)))
names_unique (x ∷ xs) (y ∷ ys) sx sy xy yx =
    let same = heads (or_cases (name_eq x y) (list_any (name_eq x) ys) (xy x (among_head x xs))) (or_cases (name_eq y x) (list_any (name_eq y) xs) (yx y (among_head y ys))) in
    let rest = names_unique xs ys sx.1 sy.1
    (λ i any. drop_head x y ys i same (behind x xs i sx.0 any) (or_cases (name_eq i y) (list_any (name_eq i) ys) (xy i (among_tail i x xs any))))
    (λ i any. drop_head y x xs i (sym same) (behind y ys i sy.0 any) (or_cases (name_eq i x) (list_any (name_eq i) xs) (yx i (among_tail i y ys any)))) in
    cc
  where
    heads : (name_eq x y ≡ true) ⊎ (list_any (name_eq x) ys ≡ true) → (name_eq y x ≡ true) ⊎ (list_any (name_eq y) xs ≡ true) → x ≡ y
    heads (inl e) b = same_name x y e
    heads (inr a) (inl e) = sym (same_name y x e)
    heads (inr a) (inr b) = absurd (not_twice x y (behind x xs y sx.0 b) (behind y ys x sy.0 a))

    drop_head : (a b : Name) (bs : List Name) (i : Name) → a ≡ b → name_cmp a i ≡ Less → (name_eq i b ≡ true) ⊎ (list_any (name_eq i) bs ≡ true) → list_any (name_eq i) bs ≡ true
    drop_head a b bs i same less (inl e) = let loop : name_cmp i i ≡ Less = rw (same ∙ sym (same_name i b e)) at less in absurd (not_twice i i loop loop)
    drop_head a b bs i same less (inr any) = any

-- ---- what parts say of an item

any_both : (items : List Name) (i : Name) → list_any (λ item. name_eq item i) items ≡ list_any (name_eq i) items
any_both [] i = refl
any_both (j ∷ js) i = rw (name_eq-symmetric j i, any_both js i) refl

or_no : (b : Bool) → (b || false) ≡ b
or_no b = grind arith

-- parts that lack the item say nothing of it
said_none : (ps : List Part) (i v : Name) → list_any (λ p. is_of p.items i) ps ≡ false → said ps i v ≡ false
said_none [] i v none = refl
said_none (p ∷ ps) i v none = let parts = or_parts (is_of p.items i) (list_any (λ q. is_of q.items i) ps) none in rw parts.0 (said_none ps i v parts.1)

-- where the one has the item, the later ones lack it
others_lack : (p : Part) (ps : List Part) (i : Name) → All (λ q. AreApart p.items q.items) ps → is_of p.items i ≡ true → list_any (λ q. is_of q.items i) ps ≡ false
others_lack p [] i apart among = refl
others_lack p (q ∷ qs) i apart among =
    rw (All-head (λ r. AreApart p.items r.items) q qs apart i among) (others_lack p qs i (All-tail (λ r. AreApart p.items r.items) q qs apart) among)

abbrev Apart : Part → Part → Type 0
Apart p q = AreApart p.items q.items

abbrev Filling : Part → Part → Type 0
Filling p q = IsSame p.versions q.versions → IsFullBefore MAX_ITEMS p.items q.items

covered : (a p r : Bool) → (a ≡ true → p ≡ true) → r ≡ false → (a || (p || r)) ≡ p
covered true p r covers none = rw (covers refl) refl
covered false p r covers none = rw none (or_no p)

-- a part that has the item says what is said of it
pub said_by : (all : Versions) (ps : List Part) (q : Part) (i v : Name) → All (λ p. IsGreater p.versions all) ps → AllPairs Apart ps → Contains ps q → is_of q.items i ≡ true → (all v || said ps i v) ≡ q.versions v
said_by all [] q i v greater apart has among = let within = has.1 in absurd (omega arith)
said_by all (p ∷ ps) q i v greater apart has among = go (Contains-cases p q ps has) (λ there. said_by all ps q i v (All-tail (λ r. IsGreater r.versions all) p ps greater) (AllPairs-tail Apart p ps apart) there among)
  where
    go : (p ≡ q) ⊎ Contains ps q → (Contains ps q → (all v || said ps i v) ≡ q.versions v) → (all v || said (p ∷ ps) i v) ≡ q.versions v
    go (inl e) rest =
        let mine : is_of p.items i ≡ true = ap (λ (r : Part). is_of r.items i) e ∙ among in
        let none = said_none ps i v (others_lack p ps i (AllPairs-head Apart p ps apart) mine) in
        rw mine (covered (all v) (p.versions v) (said ps i v) (λ has. (All-head (λ r. IsGreater r.versions all) p ps greater).covers v has) none) ∙ ap (λ (r : Part). r.versions v) e
    go (inr there) rest =
        let lack : is_of p.items i ≡ false = lacks (cases_Bool (is_of p.items i)) there in
        rw lack (rest there)
      where
        lacks : (is_of p.items i ≡ true) ⊎ (is_of p.items i ≡ false) → Contains ps q → is_of p.items i ≡ false
        lacks (inl mine) there = absurd (false≢true (sym (All-contains (λ r. AreApart p.items r.items) ps q (AllPairs-head Apart p ps apart) there i mine) ∙ among))
        lacks (inr lack) there = lack

-- some part has the item, or none has
with_item-cases : (ps : List Part) (i : Name) → ((q : Part) × (Contains ps q × (is_of q.items i ≡ true))) ⊎ (list_any (λ p. is_of p.items i) ps ≡ false)
with_item-cases [] i = inr refl
with_item-cases (p ∷ ps) i = go (cases_Bool (is_of p.items i)) (with_item-cases ps i)
  where
    go : (is_of p.items i ≡ true) ⊎ (is_of p.items i ≡ false) → ((q : Part) × (Contains ps q × (is_of q.items i ≡ true))) ⊎ (list_any (λ r. is_of r.items i) ps ≡ false) → ((q : Part) × (Contains (p ∷ ps) q × (is_of q.items i ≡ true))) ⊎ (list_any (λ r. is_of r.items i) (p ∷ ps) ≡ false)
    go (inl mine) rest = inl (p, (Contains-here p ps, mine))
    go (inr lack) (inl q) = inl (q.0, (Contains-there p q.0 ps q.1.0, q.1.1))
    go (inr lack) (inr none) = inr (rw lack none)

-- ---- some item is in no part

abbrev top_of : Option (List Name) → ℕ
top_of None = 0
top_of (Some items) = top items

abbrev tops : List Part → ℕ
tops [] = 0
tops (p ∷ ps) = top_of p.items + tops ps

abbrev nth : ℕ → Name
nth n = record { author = 0; counter = n }

free_item : (items : Option (List Name)) (n : ℕ) → ComesFirst None items → top_of items < n → is_of items (nth n) ≡ false
free_item items n listed above = grind (arith, any_both, free-above)

free_parts : (ps : List Part) (n : ℕ) → All (λ p. ComesFirst None p.items) ps → tops ps < n → list_any (λ p. is_of p.items (nth n)) ps ≡ false
free_parts [] n listed above = refl
free_parts (p ∷ ps) n listed above =
    rw (free_item p.items n (All-head (λ q. ComesFirst None q.items) p ps listed) (omega arith))
    (free_parts ps n (All-tail (λ q. ComesFirst None q.items) p ps listed) (omega arith))

-- ---- the normal form's parts

abbrev first_part : Versions → Part
first_part all = record { items = None; versions = all }

-- what is said of all items is known of all
all_known : (k : Normal) (all : Versions) (ps : List Part) → All (λ p. ComesFirst None p.items) ps → AreSame (normal_known k) (said (first_part all ∷ ps)) → all ≡ vector_has k.all
all_known k all ps listed same =
    let n : ℕ = suc (top (items_of k.listed) + tops ps) in
    let mine = vector_in-unlisted k.all k.listed (nth (suc (top (items_of k.listed) + tops ps))) (free-above (suc (top (items_of k.listed) + tops ps)) (items_of k.listed) (omega arith)) in
    let none = free_parts ps (suc (top (items_of k.listed) + tops ps)) listed (omega arith) in
    same_tests all (vector_has k.all) (λ v.
    sym (or_no (all v)) ∙ ap (λ b. all v || b) (sym (said_none ps (nth (suc (top (items_of k.listed) + tops ps))) v none))
    ∙ sym (same (nth (suc (top (items_of k.listed) + tops ps))) v) ∙ ap (λ (c : List AuthorColumn). vector_has c v) mine)

-- what a listed part of a normal form is
record Facts (k : Normal) (all : Versions) (ps : List Part) : Type 0 where
  same : AreSame (normal_known k) (said (first_part all ∷ ps))
  is_all : all ≡ vector_has k.all
  vectors : (i : Name) → IsVectorFrom 0 (vector_of k i)
  listable : All (λ p. IfSome p.items AreListable) ps
  listed : All (λ p. ComesFirst None p.items) ps
  greater : All (λ p. IsGreater p.versions all) ps
  filling : AllPairs Filling ps
  apart : AllPairs Apart ps

-- of a part's items its versions are known
known_of_part : (k : Normal) (all : Versions) (ps : List Part) → Facts k all ps → (q : Part) → Contains ps q → (i : Name) → is_of q.items i ≡ true → normal_known k i ≡ q.versions
known_of_part k all ps facts q has i among = same_tests (normal_known k i) q.versions (λ v. facts.same i v ∙ said_by all ps q i v facts.greater facts.apart has among)

-- and an item of which something else is known than of all is in a part
in_some_part : (k : Normal) (all : Versions) (ps : List Part) → Facts k all ps → (i : Name) → normal_known k i ≢ vector_has k.all → (q : Part) × (Contains ps q × (is_of q.items i ≡ true))
in_some_part k all ps facts i other = go (with_item-cases ps i)
  where
    go : ((q : Part) × (Contains ps q × (is_of q.items i ≡ true))) ⊎ (list_any (λ p. is_of p.items i) ps ≡ false) → (q : Part) × (Contains ps q × (is_of q.items i ≡ true))
    go (inl q) = q
    go (inr none) =
        let known : normal_known k i ≡ all = same_tests (normal_known k i) all (λ v. facts.same i v ∙ ap (λ b. all v || b) (said_none ps i v none) ∙ or_no (all v)) in
        absurd (other (known ∙ facts.is_all))

-- ---- the parts with the same versions

abbrev first_of : Option (List Name) → Name
first_of None = nth 0
first_of (Some []) = nth 0
first_of (Some (i ∷ is)) = i

-- whether the part's versions are those of the vector: what is known of its first item tells
abbrev has_vector : Normal → List AuthorColumn → Part → Bool
has_vector k vector p = vector_eq (vector_of k (first_of p.items)) vector

first_is_of : (items : Option (List Name)) → IfSome items AreListable → ComesFirst None items → is_of items (first_of items) ≡ true
first_is_of items listable first = grind (arith, name_eq-itself)

first_known : (k : Normal) (all : Versions) (ps : List Part) → Facts k all ps → (q : Part) → Contains ps q → vector_has (vector_of k (first_of q.items)) ≡ q.versions
first_known k all ps facts q has =
    known_of_part k all ps facts q has (first_of q.items) (first_is_of q.items (All-contains (λ p. IfSome p.items AreListable) ps q facts.listable has) (All-contains (λ p. ComesFirst None p.items) ps q facts.listed has))

vector_says : (k : Normal) (all : Versions) (ps : List Part) → Facts k all ps → (vector : List AuthorColumn) (q : Part) → Contains ps q → has_vector k vector q ≡ true → q.versions ≡ vector_has vector
vector_says k all ps facts vector q has ours =
    sym (first_known k all ps facts q has) ∙ ap (λ (c : List AuthorColumn). vector_has c) ((vectors_Decides (vector_of k (first_of q.items)) vector).0 ours)

says_vector : (k : Normal) (all : Versions) (ps : List Part) → Facts k all ps → (vector : List AuthorColumn) (q : Part) → Contains ps q → IsVectorFrom 0 vector → q.versions ≡ vector_has vector → has_vector k vector q ≡ true
says_vector k all ps facts vector q has ok e =
    (vectors_Decides (vector_of k (first_of q.items)) vector).1 (vectors_same (vector_of k (first_of q.items)) vector (facts.vectors (first_of q.items)) ok (λ v. ap (λ (s : Versions). s v) (first_known k all ps facts q has ∙ e)))

filled : (a b : Option (List Name)) → IsFullBefore MAX_ITEMS a b → FillsBefore MAX_ITEMS (items_in a) (items_in b)
filled a b full = grind arith

in_turn : (k : Normal) (all : Versions) (ps : List Part) → Facts k all ps → (vector : List AuthorColumn) → AllPairs (Turn MAX_ITEMS (has_vector k vector)) ps
in_turn k all ps facts vector i j d less within mine yours =
    let first : i < length ps = omega arith in
    filled (get_or ps i d).items (get_or ps j d).items
    (facts.filling i j d less within (λ v. ap (λ (s : Versions). s v) (vector_says k all ps facts vector (get_or ps i d) (Contains-at ps i d first) mine ∙ sym (vector_says k all ps facts vector (get_or ps j d) (Contains-at ps j d within) yours))))
  where
    Contains-at : (qs : List Part) (n : ℕ) (d : Part) → n < length qs → Contains qs (get_or qs n d)
    Contains-at qs n d within = (n, within, get_or_default qs n (get_or qs n d) d within)

few_in : (k : Normal) (all : Versions) (ps : List Part) → Facts k all ps → All (λ p. length (items_in p.items) ≤ MAX_ITEMS) ps
few_in k all ps facts n d within = go (get_or ps n d).items (facts.listable n d within)
  where
    go : (items : Option (List Name)) → IfSome items AreListable → length (items_in items) ≤ MAX_ITEMS
    go None listable = omega arith
    go (Some items) listable = listable.few

rising_in : (k : Normal) (all : Versions) (ps : List Part) → Facts k all ps → All (λ p. IsStrictlySortedBy name_cmp (items_in p.items)) ps
unfolding IsStrictlySortedBy
rising_in k all ps facts n d within = go (get_or ps n d).items (facts.listable n d within)
  where
    go : (items : Option (List Name)) → IfSome items AreListable → IsStrictlySortedBy name_cmp (items_in items)
    go None listable = tt
    go (Some items) listable = listable.rising

among_items : (items : Option (List Name)) (i : Name) → ComesFirst None items → is_of items i ≡ list_any (name_eq i) (items_in items)
among_items items i first = grind (arith, any_both)

-- together they have all items of which just these versions are known
all_with : (k : Normal) (all : Versions) (ps : List Part) → Facts k all ps → (vector : List AuthorColumn) → IsVectorFrom 0 vector → vector_has vector ≢ vector_has k.all → AreAllWith (normal_known k) (vector_has vector) (joined (has_vector k vector) ps)
all_with k all ps facts vector ok other = record {
  rising = joined_rising MAX_ITEMS (has_vector k vector) ps (rising_in k all ps facts) (in_turn k all ps facts vector);
  all = λ i. (λ any. there i any, λ known. back i known);
}
  where
    listed : (q : Part) → Contains ps q → ComesFirst None q.items
    listed q has = All-contains (λ p. ComesFirst None p.items) ps q facts.listed has

    there : (i : Name) → list_any (name_eq i) (joined (has_vector k vector) ps) ≡ true → normal_known k i ≡ vector_has vector
    there i any =
        let q = joined_has (has_vector k vector) ps i any in
        known_of_part k all ps facts q.0 q.1.0 i (among_items q.0.items i (listed q.0 q.1.0) ∙ q.1.1.1) ∙ vector_says k all ps facts vector q.0 q.1.0 q.1.1.0

    back : (i : Name) → normal_known k i ≡ vector_has vector → list_any (name_eq i) (joined (has_vector k vector) ps) ≡ true
    back i known =
        let q = in_some_part k all ps facts i (λ e. other (sym known ∙ e)) in
        let says : q.0.versions ≡ vector_has vector = sym (known_of_part k all ps facts q.0 q.1.0 i q.1.1) ∙ known in
        has_joined (has_vector k vector) ps q.0 i q.1.0 (says_vector k all ps facts vector q.0 q.1.0 ok says) (sym (among_items q.0.items i (listed q.0 q.1.0)) ∙ q.1.1)

-- so each part is a piece of these
piece_in : (k : Normal) (all : Versions) (ps : List Part) → Facts k all ps → (q : Part) → Contains ps q → q.versions ≢ vector_has k.all → HasPiece MAX_ITEMS (normal_known k) q.versions (items_in q.items)
piece_in k all ps facts q has other =
    let is : vector_has (vector_of k (first_of q.items)) ≡ q.versions = first_known k all ps facts q has in
    record {
      whole = joined (has_vector k (vector_of k (first_of q.items))) ps;
      are = subst (λ (s : Versions). AreAllWith (normal_known k) s (joined (has_vector k (vector_of k (first_of q.items))) ps)) is (all_with k all ps facts (vector_of k (first_of q.items)) (facts.vectors (first_of q.items)) (λ e. other (sym is ∙ e)));
      piece = piece_of MAX_ITEMS (has_vector k (vector_of k (first_of q.items))) ps q (few_in k all ps facts) (in_turn k all ps facts (vector_of k (first_of q.items))) has (says_vector k all ps facts (vector_of k (first_of q.items)) q has (facts.vectors (first_of q.items)) (sym is));
    }

listed_is_part : (k : Normal) (all : Versions) (ps : List Part) → Facts k all ps → (q : Part) → Contains ps q → IsNormalPart k q
listed_is_part k all ps facts q has = go q.items (All-contains (λ p. IfSome p.items AreListable) ps q facts.listable has) (All-contains (λ p. ComesFirst None p.items) ps q facts.listed has) (piece_in k all ps facts q has other)
  where
    other : q.versions ≢ vector_has k.all
    other e = (All-contains (λ p. IsGreater p.versions all) ps q facts.greater has).more (λ v. ap (λ (s : Versions). s v) (e ∙ sym facts.is_all))

    go : (items : Option (List Name)) → IfSome items AreListable → ComesFirst None items → HasPiece MAX_ITEMS (normal_known k) q.versions (items_in items) → HasNormalVersions k items q.versions
    go None listable first piece = absurd first
    go (Some items) listable first piece = (listable.some, other, piece)

-- all items with the versions, in rising order, are one list
all_with-unique : (pairs : Pairs) (versions : Versions) (a b : List Name) → AreAllWith pairs versions a → AreAllWith pairs versions b → a ≡ b
all_with-unique pairs versions a b of_a of_b = grind (arith, names_unique)

-- a part that the form has for the knowledge is one of these
part_is_listed : (k : Normal) (all : Versions) (ps : List Part) → Facts k all ps → (p : Part) → IsNormalPart k p → Contains (first_part all ∷ ps) p
part_is_listed k all ps facts p is = go p.items is
  where
    just : (others : Option (List Name)) (items : List Name) → ComesFirst None others → items_in others ≡ items → others ≡ Some items
    just None items first e = absurd first
    just (Some others) items first e = ap Some e

    found : (j : Name) (js : List Name) → HasNormalVersions k (Some (j ∷ js)) p.versions → (q : Part) × (Contains ps q × ((q.items ≡ Some (j ∷ js)) × (q.versions ≡ p.versions)))
    found j js is =
        let known : vector_has (vector_of k j) ≡ p.versions = known_of MAX_ITEMS (normal_known k) p.versions (j ∷ js) is.2 j (among_head j js) in
        let mine : AreAllWith (normal_known k) (vector_has (vector_of k j)) (joined (has_vector k (vector_of k j)) ps) = all_with k all ps facts (vector_of k j) (facts.vectors j) (λ e. is.1 (sym known ∙ e)) in
        let whole : is.2.whole ≡ joined (has_vector k (vector_of k j)) ps = all_with-unique (normal_known k) p.versions is.2.whole (joined (has_vector k (vector_of k j)) ps) is.2.are (subst (λ (s : Versions). AreAllWith (normal_known k) s (joined (has_vector k (vector_of k j)) ps)) known mine) in
        let piece : j ∷ js ≡ take MAX_ITEMS (drop (is.2.piece.0 * MAX_ITEMS) (joined (has_vector k (vector_of k j)) ps)) = is.2.piece.1 ∙ ap (λ (items : List Name). take MAX_ITEMS (drop (is.2.piece.0 * MAX_ITEMS) items)) whole in
        let q = of_piece MAX_ITEMS (has_vector k (vector_of k j)) ps is.2.piece.0 (few_in k all ps facts) (in_turn k all ps facts (vector_of k j)) (λ none. is.0 (piece ∙ none)) in
        (q.0, (q.1.0, (just q.0.items (j ∷ js) (All-contains (λ r. ComesFirst None r.items) ps q.0 facts.listed q.1.0) (q.1.1.1 ∙ sym piece), vector_says k all ps facts (vector_of k j) q.0 q.1.0 q.1.1.0 ∙ known)))

    go : (items : Option (List Name)) → HasNormalVersions k items p.versions → Contains (first_part all ∷ ps) (record { items = items; versions = p.versions })
    go None versions = (0, omega arith, ap (λ (s : Versions). record { items = None; versions = s }) (facts.is_all ∙ sym versions))
    go (Some []) is = absurd (is.0 refl)
    go (Some (j ∷ js)) is =
        let q = found j js is in
        let one : q.0 ≡ record { items = Some (j ∷ js); versions = p.versions } = ap (λ (o : Option (List Name)). record { items = o; versions = q.0.versions }) q.1.1.0 ∙ ap (λ (s : Versions). record { items = Some (j ∷ js); versions = s }) q.1.1.1 in
        subst (Contains (first_part all ∷ ps)) one (Contains-there (first_part all) q.0 ps q.1.0)

facts_of : (k : Normal) (all : Versions) (ps : List Part) → ((i : Name) → IsVectorFrom 0 (vector_of k i)) → AreSame (normal_known k) (said (first_part all ∷ ps)) → AreInOrder (first_part all ∷ ps) → All (λ p. IsGreater p.versions all) ps → AllPairs Filling ps → AllPairs Apart ps → Facts k all ps
facts_of k all ps vectors same in_order greater filling apart =
    let listed : All (λ p. ComesFirst None p.items) ps = AllPairs-head (λ p q. ComesFirst p.items q.items) (first_part all) ps in_order.in_order in
    record {
      same = same;
      is_all = all_known k all ps listed same;
      vectors = vectors;
      listable = All-tail (λ p. IfSome p.items AreListable) (first_part all) ps in_order.listable;
      listed = listed;
      greater = greater;
      filling = filling;
      apart = apart;
    }

-- THE PARTS of a normal form are those that the form has for the knowledge
pub normal_parts_that : {limit : ℕ} (k : Normal) (parts : List Part) → IsNormal limit k → AreNormalOf k parts → ArePartsThat (IsNormalPart k) parts
normal_parts_that k parts is_normal of =
    let normal = of.normal in
    let same : AreSame (normal_known k) (said (first_part normal.all ∷ normal.listed)) = subst (λ ps. AreSame (normal_known k) (said ps)) normal.first of.same in
    let in_order : AreInOrder (first_part normal.all ∷ normal.listed) = subst AreInOrder normal.first normal.in_order in
    let facts = facts_of k normal.all normal.listed (λ i. vector_of-IsVector k i is_normal) same in_order normal.greater normal.pieces normal.apart in
    subst (ArePartsThat (IsNormalPart k)) (sym normal.first) (record {
      in_order = in_order;
      are = All-cons (IsNormalPart k) (first_part normal.all) normal.listed facts.is_all (All-weaker (Contains normal.listed) (IsNormalPart k) (λ q has. listed_is_part k normal.all normal.listed facts q has) normal.listed (All-contains_itself normal.listed));
      has_all = λ p is. part_is_listed k normal.all normal.listed facts p is;
    })

-- so two normal forms of a knowledge are one
pub normal_form_unique : {limit : ℕ} (k : Normal) (a b : List Part) → IsNormal limit k → AreNormalOf k a → AreNormalOf k b → a ≡ b
normal_form_unique k a b normal oa ob = parts_that-unique (IsNormalPart k) a b (normal_parts_that k a normal oa) (normal_parts_that k b normal ob)
