use Rattle.std.proofs.Common.{◌≡◌, ◌<◌, ◌+◌, ◌⊎◌, ℕ, suc, Bool, true, false, List, [], ◌∷◌, AllPairs, Contains, refl, ap, sym, ◌∙◌, arith, inl, inr}
use Rattle.mr_itemset.proofs.Names.{All-contains, AllPairs-head, AllPairs-tail, AreSame, AuthorColumn, Contains-cases, Contains-here, Contains-there, Equal}
use Rattle.mr_itemset.proofs.Names.{HasMore, IsBefore, IsNormal, IsSame, Less, Listed, Name, Normal, Ordering, cases_Bool, exact_names, false≢true, is_eq}
use Rattle.mr_itemset.proofs.Names.{items_of, list_any, name_cmp, name_eq, name_eq-itself, name_eq-symmetric, names_total, normal_known, or_parts}
use Rattle.mr_itemset.proofs.Names.{tied_itself, vector_has, vector_in, vectors_same}

-- ---- names

name_eq-less : (a b : Name) → name_cmp a b ≡ Less → name_eq a b ≡ false
name_eq-less a b less = ap is_eq less

equal_from_test : (o : Ordering) → is_eq o ≡ true → o ≡ Equal
equal_from_test o e = grind (arith, false≢true)

pub same_name : (a b : Name) → name_eq a b ≡ true → a ≡ b
same_name a b e = exact_names a b (equal_from_test (name_cmp a b) e)

less_not_more : (a b : Name) → name_cmp a b ≡ Less → name_cmp b a ≡ Less → ⊥
less_not_more a b ab ba = let round = names_total.trans a b a ab ba in let same = tied_itself names_total a in cc

-- ---- what is known of an item

-- a listed item has its own vector
pub vector_in-has : (all : List AuthorColumn) (xs : List Listed) (x : Listed) → AllPairs IsBefore xs → Contains xs x → vector_in all xs x.item ≡ x.vector
vector_in-has all [] x sorted has = let within = has.1 in absurd (omega arith)
vector_in-has all (y ∷ ys) x sorted has = go (Contains-cases y x ys has) (λ there. vector_in-has all ys x (AllPairs-tail IsBefore y ys sorted) there)
  where
    go : (y ≡ x) ⊎ Contains ys x → (Contains ys x → vector_in all ys x.item ≡ x.vector) → vector_in all (y ∷ ys) x.item ≡ x.vector
    go (inl e) rest = let same : name_eq y.item x.item ≡ true = ap (λ (z : Listed). name_eq z.item x.item) e ∙ name_eq-itself x.item in rw same (ap (λ (z : Listed). z.vector) e)
    go (inr there) rest =
        let less : name_cmp y.item x.item ≡ Less = All-contains (IsBefore y) ys x (AllPairs-head IsBefore y ys sorted) there in
        rw (name_eq-less y.item x.item less) (rest there)

-- an item that is not listed has what is known for all
pub vector_in-unlisted : (all : List AuthorColumn) (xs : List Listed) (i : Name) → list_any (name_eq i) (items_of xs) ≡ false → vector_in all xs i ≡ all
vector_in-unlisted all [] i free = refl
vector_in-unlisted all (x ∷ xs) i free = grind (arith, vector_in-unlisted all xs i, or_parts, name_eq-symmetric)

-- either an item is listed, or it has what is known for all
pub vector_in-cases : (all : List AuthorColumn) (xs : List Listed) (i : Name) → (vector_in all xs i ≡ all) ⊎ ((x : Listed) × (Contains xs x × ((x.item ≡ i) × (vector_in all xs i ≡ x.vector))))
vector_in-cases all [] i = inl refl
vector_in-cases all (x ∷ xs) i = go (cases_Bool (name_eq x.item i)) (vector_in-cases all xs i)
  where
    go : (name_eq x.item i ≡ true) ⊎ (name_eq x.item i ≡ false) → (vector_in all xs i ≡ all) ⊎ ((y : Listed) × (Contains xs y × ((y.item ≡ i) × (vector_in all xs i ≡ y.vector)))) → (vector_in all (x ∷ xs) i ≡ all) ⊎ ((y : Listed) × (Contains (x ∷ xs) y × ((y.item ≡ i) × (vector_in all (x ∷ xs) i ≡ y.vector))))
    go (inl same) rest = inr (x, (Contains-here x xs, (same_name x.item i same, rw same refl)))
    go (inr other) (inl none) = inl (rw other none)
    go (inr other) (inr some) = inr (some.0, (Contains-there x some.0 xs some.1.0, (some.1.1.0, rw other some.1.1.1)))

-- ---- some item is not listed

abbrev pub top : List Name → ℕ
top [] = 0
top (j ∷ js) = j.counter + top js

not_in : (b : Bool) → (b ≡ true → ⊥) → b ≡ false
not_in b h = grind arith

pub free-above : (n : ℕ) (js : List Name) → top js < n → list_any (name_eq (record { author = 0; counter = n })) js ≡ false
free-above n [] above = refl
free-above n (j ∷ js) above = grind (arith, free-above n js, not_in, same_name)

-- ---- one form

-- rising items with the same members are one list
listed_unique : (xs ys : List Listed) → AllPairs IsBefore xs → AllPairs IsBefore ys → ((x : Listed) → Contains xs x → Contains ys x) → ((x : Listed) → Contains ys x → Contains xs x) → xs ≡ ys
listed_unique [] [] sx sy xy yx = refl
listed_unique [] (y ∷ ys) sx sy xy yx = let has = yx y (Contains-here y ys) in let within = has.1 in absurd (omega arith)
listed_unique (x ∷ xs) [] sx sy xy yx = let has = xy x (Contains-here x xs) in let within = has.1 in absurd (omega arith)
listed_unique (x ∷ xs) (y ∷ ys) sx sy xy yx =
    let same = heads (Contains-cases y x ys (xy x (Contains-here x xs))) (Contains-cases x y xs (yx y (Contains-here y ys))) in
    let rest = listed_unique xs ys (AllPairs-tail IsBefore x xs sx) (AllPairs-tail IsBefore y ys sy)
    (λ z has. drop_head x y ys z same (after x xs sx z has) (Contains-cases y z ys (xy z (Contains-there x z xs has))))
    (λ z has. drop_head y x xs z (sym same) (after y ys sy z has) (Contains-cases x z xs (yx z (Contains-there y z ys has)))) in
    cc
  where
    after : (a : Listed) (rest : List Listed) → AllPairs IsBefore (a ∷ rest) → (z : Listed) → Contains rest z → name_cmp a.item z.item ≡ Less
    after a rest sorted z has = All-contains (IsBefore a) rest z (AllPairs-head IsBefore a rest sorted) has

    heads : (y ≡ x) ⊎ Contains ys x → (x ≡ y) ⊎ Contains xs y → x ≡ y
    heads (inl e) b = sym e
    heads (inr a) (inl e) = e
    heads (inr a) (inr b) = absurd (less_not_more x.item y.item (after x xs sx y b) (after y ys sy x a))

    drop_head : (a b : Listed) (bs : List Listed) (z : Listed) → a ≡ b → name_cmp a.item z.item ≡ Less → (b ≡ z) ⊎ Contains bs z → Contains bs z
    drop_head a b bs z same less (inl e) = let loop : name_cmp z.item z.item ≡ Less = rw (same ∙ e) at less in absurd (less_not_more z.item z.item loop loop)
    drop_head a b bs z same less (inr has) = has

-- what one lists, the other lists
lists_too : {limit : ℕ} (a b : Normal) → IsNormal limit a → IsNormal limit b → a.all ≡ b.all → AreSame (normal_known a) (normal_known b) → (x : Listed) → Contains a.listed x → Contains b.listed x
lists_too a b na nb all same x has = go (vector_in-cases b.all b.listed x.item)
  where
    mine : HasMore a.all x
    mine = All-contains (HasMore a.all) a.listed x na.more has

    known : IsSame (vector_has x.vector) (vector_has (vector_in b.all b.listed x.item))
    known v = ap (λ (c : List AuthorColumn). vector_has c v) (sym (vector_in-has a.all a.listed x na.rising has)) ∙ same x.item v

    go : (vector_in b.all b.listed x.item ≡ b.all) ⊎ ((y : Listed) × (Contains b.listed y × ((y.item ≡ x.item) × (vector_in b.all b.listed x.item ≡ y.vector)))) → Contains b.listed x
    go (inl none) = absurd (mine.more (λ v. known v ∙ ap (λ (c : List AuthorColumn). vector_has c v) (none ∙ sym all)))
    go (inr some) =
        let theirs = All-contains (HasMore b.all) b.listed some.0 nb.more some.1.0 in
        let vector : some.0.vector ≡ x.vector = sym (vectors_same x.vector some.0.vector mine.vector_ok theirs.vector_ok (λ v. known v ∙ ap (λ (c : List AuthorColumn). vector_has c v) some.1.1.1)) in
        let is : some.0 ≡ x = ap (λ (i : Name). record { item = i; vector = some.0.vector }) some.1.1.0 ∙ ap (λ (c : List AuthorColumn). record { item = x.item; vector = c }) vector in
        rw (← is) some.1.0

-- ONE FORM of a knowledge: some item is listed by neither, so the vectors of all items are one, and with them the
-- listed items.
pub normal_unique : {limit : ℕ} (a b : Normal) → IsNormal limit a → IsNormal limit b → AreSame (normal_known a) (normal_known b) → a ≡ b
normal_unique a b na nb same =
    let n : ℕ = suc (top (items_of a.listed) + top (items_of b.listed)) in
    let ea = vector_in-unlisted a.all a.listed (record { author = 0; counter = suc (top (items_of a.listed) + top (items_of b.listed)) }) (free-above (suc (top (items_of a.listed) + top (items_of b.listed))) (items_of a.listed) (omega arith)) in
    let eb = vector_in-unlisted b.all b.listed (record { author = 0; counter = suc (top (items_of a.listed) + top (items_of b.listed)) }) (free-above (suc (top (items_of a.listed) + top (items_of b.listed))) (items_of b.listed) (omega arith)) in
    let all : a.all ≡ b.all = vectors_same a.all b.all na.all_ok nb.all_ok (λ v. ap (λ (c : List AuthorColumn). vector_has c v) (sym ea) ∙ same (record { author = 0; counter = suc (top (items_of a.listed) + top (items_of b.listed)) }) v ∙ ap (λ (c : List AuthorColumn). vector_has c v) eb) in
    let listed : a.listed ≡ b.listed = listed_unique a.listed b.listed na.rising nb.rising (lists_too a b na nb all same) (lists_too b a nb na (sym all) (λ i v. sym (same i v))) in
    ap (λ (c : List AuthorColumn). record { all = c; listed = a.listed }) all ∙ ap (λ (xs : List Listed). record { all = b.all; listed = xs }) listed
