-- Parts that are cut out of one list of items, and the list that they make.
use Rattle.std.proofs.Common.{◌≡◌, ◌≢◌, ◌≤◌, ◌+◌, ◌*◌, ◌⊎◌, ℕ, zero, suc, Bool, true, false, if◌then◌else◌, List, [], ◌∷◌, ◌++◌, length, take, drop, Option, Some, None, All, AllPairs, Contains, refl, ap, sym, ◌∙◌, arith, inl, inr}
use Rattle.mr_itemset.proofs.Names.{All-contains, All-head, All-tail, AllByRecursion, AllPairs-head, AllPairs-tail, Contains-cases, Contains-here}
use Rattle.mr_itemset.proofs.Names.{Contains-there, FillsBefore, IsPieceOf, Less, Name, Part, append-nil, cases_Bool, drop-drop, drop_all}
use Rattle.std.specs.List.Sorted.{IsStrictlySortedBy}
use Rattle.mr_itemset.proofs.Names.{drop_at, false≢true, list_any, list_any-append, name_cmp, name_eq, name_eq-itself, or_cases, suc-mul, take_all, take_at}
use Rattle.std.proofs.lemmas.Bool.{or_left, or_right}

-- ---- rising items behind one another

among_head : (x : Name) (xs : List Name) → list_any (name_eq x) (x ∷ xs) ≡ true
among_head x xs = rw (name_eq-itself x) refl

among_tail : (i x : Name) (xs : List Name) → list_any (name_eq i) xs ≡ true → list_any (name_eq i) (x ∷ xs) ≡ true
among_tail i x xs any = or_right (name_eq i x) (list_any (name_eq i) xs) any

each_among : (P : Name → Type 0) (ys : List Name) → ((j : Name) → list_any (name_eq j) ys ≡ true → P j) → AllByRecursion P ys
each_among P [] each = tt
each_among P (y ∷ ys) each = (each y (among_head y ys), each_among P ys (λ j any. each j (among_tail j y ys any)))

each_append : (P : Name → Type 0) (xs ys : List Name) → AllByRecursion P xs → AllByRecursion P ys → AllByRecursion P (xs ++ ys)
each_append P [] ys ex ey = ey
each_append P (x ∷ xs) ys ex ey = (ex.0, each_append P xs ys ex.1 ey)

sorted_append : (xs ys : List Name) → IsStrictlySortedBy name_cmp xs → IsStrictlySortedBy name_cmp ys → ((i j : Name) → list_any (name_eq i) xs ≡ true → list_any (name_eq j) ys ≡ true → name_cmp i j ≡ Less) → IsStrictlySortedBy name_cmp (xs ++ ys)
unfolding IsStrictlySortedBy
sorted_append [] ys sx sy below = sy
sorted_append (x ∷ xs) ys sx sy below = (
  each_append (λ z. name_cmp x z ≡ Less) xs ys sx.0 (each_among (λ z. name_cmp x z ≡ Less) ys (λ j any. below x j (among_head x xs) any)),
  sorted_append xs ys sx.1 sy (λ i j a b. below i j (among_tail i x xs a) b),
)

-- ---- the list that some of the parts make

abbrev pub items_in : Option (List Name) → List Name
items_in None = []
items_in (Some items) = items

abbrev pub joined : (Part → Bool) → List Part → List Name
joined mine [] = []
joined mine (p ∷ ps) = if mine p then items_in p.items ++ joined mine ps else joined mine ps

pub joined_has : (mine : Part → Bool) (ps : List Part) (i : Name) → list_any (name_eq i) (joined mine ps) ≡ true → (q : Part) × (Contains ps q × ((mine q ≡ true) × (list_any (name_eq i) (items_in q.items) ≡ true)))
joined_has mine [] i any = absurd (false≢true any)
joined_has mine (p ∷ ps) i any = grind (arith, joined_has mine ps i, cases_Bool, or_cases, list_any-append, Contains-here, Contains-there)

pub has_joined : (mine : Part → Bool) (ps : List Part) (q : Part) (i : Name) → Contains ps q → mine q ≡ true → list_any (name_eq i) (items_in q.items) ≡ true → list_any (name_eq i) (joined mine ps) ≡ true
has_joined mine [] q i has yours any = let within = has.1 in absurd (omega arith)
has_joined mine (p ∷ ps) q i has yours any = go (cases_Bool (mine p)) (Contains-cases p q ps has) (λ there. has_joined mine ps q i there yours any)
  where
    go : (mine p ≡ true) ⊎ (mine p ≡ false) → (p ≡ q) ⊎ Contains ps q → (Contains ps q → list_any (name_eq i) (joined mine ps) ≡ true) → list_any (name_eq i) (joined mine (p ∷ ps)) ≡ true
    go (inl ours) (inl same) rest =
        rw ours (list_any-append (name_eq i) (items_in p.items) (joined mine ps) ∙ or_left (list_any (name_eq i) (items_in p.items)) (list_any (name_eq i) (joined mine ps)) (ap (λ (r : Part). list_any (name_eq i) (items_in r.items)) same ∙ any))
    go (inl ours) (inr there) rest =
        rw ours (list_any-append (name_eq i) (items_in p.items) (joined mine ps) ∙ or_right (list_any (name_eq i) (items_in p.items)) (list_any (name_eq i) (joined mine ps)) (rest there))
    go (inr lack) (inl same) rest = absurd (false≢true (sym lack ∙ ap mine same ∙ yours))
    go (inr lack) (inr there) rest = rw lack (rest there)

-- of two of them the first is full, and lower
abbrev pub Turn : ℕ → (Part → Bool) → Part → Part → Type 0
Turn most mine p q = mine p ≡ true → mine q ≡ true → FillsBefore most (items_in p.items) (items_in q.items)

pub joined_rising : (most : ℕ) (mine : Part → Bool) (ps : List Part) → All (λ p. IsStrictlySortedBy name_cmp (items_in p.items)) ps → AllPairs (Turn most mine) ps → IsStrictlySortedBy name_cmp (joined mine ps)
unfolding IsStrictlySortedBy
joined_rising most mine [] rising turn = tt
joined_rising most mine (p ∷ ps) rising turn =
    go (cases_Bool (mine p)) (joined_rising most mine ps (All-tail (λ p. IsStrictlySortedBy name_cmp (items_in p.items)) p ps rising) (AllPairs-tail (Turn most mine) p ps turn))
  where
    go : (mine p ≡ true) ⊎ (mine p ≡ false) → IsStrictlySortedBy name_cmp (joined mine ps) → IsStrictlySortedBy name_cmp (joined mine (p ∷ ps))
    go (inl ours) rest =
        rw ours (sorted_append (items_in p.items) (joined mine ps) (All-head (λ p. IsStrictlySortedBy name_cmp (items_in p.items)) p ps rising) rest
        (λ i j a b. let q = joined_has mine ps j b in (All-contains (Turn most mine p) ps q.0 (AllPairs-head (Turn most mine) p ps turn) q.1.0 ours q.1.1.0).below i j a q.1.1.1))
    go (inr lack) rest = rw lack rest

-- ---- its pieces

drop_nil : (n : ℕ) → drop n (let xs : List Name = [] in xs) ≡ []
drop_nil n = grind arith

take_nil : (n : ℕ) → take n (let xs : List Name = [] in xs) ≡ []
take_nil n = grind arith

-- the first piece
first_piece : (most : ℕ) (whole : List Name) → take most (drop (0 * most) whole) ≡ take most whole
first_piece most whole = let none : 0 * most ≡ 0 = omega arith in rw none refl

-- the pieces behind a full one are those of what follows
next_piece : (most n : ℕ) (xs ys : List Name) → length xs ≡ most → take most (drop (suc n * most) (xs ++ ys)) ≡ take most (drop (n * most) ys)
next_piece most n xs ys full =
    let more : suc n * most ≡ most + n * most = rw (suc-mul n most) (omega arith) in
    ap (take most) (ap (λ m. drop m (xs ++ ys)) more ∙ sym (drop-drop (n * most) most (xs ++ ys)) ∙ ap (drop (n * most)) (drop_at xs ys most full))

-- a part is full, or those behind it make nothing more
full_or_last : (most : ℕ) (mine : Part → Bool) (p : Part) (ps : List Part) → mine p ≡ true → All (Turn most mine p) ps → (length (items_in p.items) ≡ most) ⊎ (joined mine ps ≡ [])
full_or_last most mine p [] ours turn = inr refl
full_or_last most mine p (q ∷ qs) ours turn = go (cases_Bool (mine q)) (full_or_last most mine p qs ours (All-tail (Turn most mine p) q qs turn))
  where
    go : (mine q ≡ true) ⊎ (mine q ≡ false) → (length (items_in p.items) ≡ most) ⊎ (joined mine qs ≡ []) → (length (items_in p.items) ≡ most) ⊎ (joined mine (q ∷ qs) ≡ [])
    go (inl yours) rest = inl (All-head (Turn most mine p) q qs turn ours yours).full
    go (inr lack) rest = rw lack rest

-- what stands first is the first piece
first_taken : (most : ℕ) (xs ys : List Name) → length xs ≤ most → (length xs ≡ most) ⊎ (ys ≡ []) → take most (xs ++ ys) ≡ xs
first_taken most xs ys few h = grind (arith, take_at, append-nil, take_all)

abbrev Few : ℕ → Part → Type 0
Few most p = length (items_in p.items) ≤ most

-- EACH PART is a piece of the list
pub piece_of : (most : ℕ) (mine : Part → Bool) (ps : List Part) (q : Part) → All (Few most) ps → AllPairs (Turn most mine) ps → Contains ps q → mine q ≡ true → IsPieceOf most (joined mine ps) (items_in q.items)
piece_of most mine [] q few turn has yours = let within = has.1 in absurd (omega arith)
piece_of most mine (p ∷ ps) q few turn has yours = go (cases_Bool (mine p)) (Contains-cases p q ps has) (λ there. piece_of most mine ps q (All-tail (Few most) p ps few) (AllPairs-tail (Turn most mine) p ps turn) there yours)
  where
    behind : All (Turn most mine p) ps
    behind = AllPairs-head (Turn most mine) p ps turn

    go : (mine p ≡ true) ⊎ (mine p ≡ false) → (p ≡ q) ⊎ Contains ps q → (Contains ps q → IsPieceOf most (joined mine ps) (items_in q.items)) → IsPieceOf most (joined mine (p ∷ ps)) (items_in q.items)
    go (inl ours) (inl same) rest =
        (0, rw ours (ap (λ (r : Part). items_in r.items) (sym same) ∙ sym (first_piece most (items_in p.items ++ joined mine ps) ∙ first_taken most (items_in p.items) (joined mine ps) (All-head (Few most) p ps few) (full_or_last most mine p ps ours behind))))
    go (inl ours) (inr there) rest =
        let r = rest there in
        (suc r.0, rw ours (r.1 ∙ sym (next_piece most r.0 (items_in p.items) (joined mine ps) (All-contains (Turn most mine p) ps q behind there ours yours).full)))
    go (inr lack) (inl same) rest = absurd (false≢true (sym lack ∙ ap mine same ∙ yours))
    go (inr lack) (inr there) rest = let r = rest there in (r.0, rw lack r.1)

-- AND EACH PIECE is a part
pub of_piece : (most : ℕ) (mine : Part → Bool) (ps : List Part) (n : ℕ) → All (Few most) ps → AllPairs (Turn most mine) ps → take most (drop (n * most) (joined mine ps)) ≢ [] → (q : Part) × (Contains ps q × ((mine q ≡ true) × (items_in q.items ≡ take most (drop (n * most) (joined mine ps)))))
of_piece most mine [] n few turn some = absurd (some (ap (take most) (drop_nil (n * most)) ∙ take_nil most))
of_piece most mine (p ∷ ps) n few turn some = go n some (cases_Bool (mine p)) (λ m rest. of_piece most mine ps m (All-tail (Few most) p ps few) (AllPairs-tail (Turn most mine) p ps turn) rest)
  where
    behind : All (Turn most mine p) ps
    behind = AllPairs-head (Turn most mine) p ps turn

    Found : List Part → ℕ → Type 0
    Found qs m = (q : Part) × (Contains qs q × ((mine q ≡ true) × (items_in q.items ≡ take most (drop (m * most) (joined mine qs)))))

    later : (m : ℕ) → mine p ≡ true → (length (items_in p.items) ≡ most) ⊎ (joined mine ps ≡ []) → take most (drop (suc m * most) (items_in p.items ++ joined mine ps)) ≢ [] → (take most (drop (m * most) (joined mine ps)) ≢ [] → Found ps m) → (q : Part) × (Contains (p ∷ ps) q × ((mine q ≡ true) × (items_in q.items ≡ take most (drop (suc m * most) (items_in p.items ++ joined mine ps)))))
    later m ours (inl full) some rest =
        let same = next_piece most m (items_in p.items) (joined mine ps) full in
        let r = rest (λ none. some (same ∙ none)) in
        (r.0, (Contains-there p r.0 ps r.1.0, (r.1.1.0, r.1.1.1 ∙ sym same)))
    later m ours (inr none) some rest =
        let more : suc m * most ≡ m * most + most = suc-mul m most in
        let few_here : length (items_in p.items) ≤ most = All-head (Few most) p ps few in
        let past : length (items_in p.items) ≤ suc m * most = omega arith in
        absurd (some (ap (λ (ys : List Name). take most (drop (suc m * most) (items_in p.items ++ ys))) none ∙ ap (λ (xs : List Name). take most (drop (suc m * most) xs)) (append-nil (items_in p.items)) ∙ ap (take most) (drop_all (suc m * most) (items_in p.items) past) ∙ take_nil most))

    here : (m : ℕ) → mine p ≡ true → take most (drop (m * most) (items_in p.items ++ joined mine ps)) ≢ [] → ((l : ℕ) → take most (drop (l * most) (joined mine ps)) ≢ [] → Found ps l) → (q : Part) × (Contains (p ∷ ps) q × ((mine q ≡ true) × (items_in q.items ≡ take most (drop (m * most) (items_in p.items ++ joined mine ps)))))
    here zero ours some rest =
        (p, (Contains-here p ps, (ours, sym (first_piece most (items_in p.items ++ joined mine ps) ∙ first_taken most (items_in p.items) (joined mine ps) (All-head (Few most) p ps few) (full_or_last most mine p ps ours behind)))))
    here (suc l) ours some rest = later l ours (full_or_last most mine p ps ours behind) some (rest l)

    go : (m : ℕ) → take most (drop (m * most) (joined mine (p ∷ ps))) ≢ [] → (mine p ≡ true) ⊎ (mine p ≡ false) → ((l : ℕ) → take most (drop (l * most) (joined mine ps)) ≢ [] → Found ps l) → Found (p ∷ ps) m
    go m some (inl ours) rest = rw ours (here m ours (rw ours at some) rest)
    go m some (inr lack) rest = let r = rest m (rw lack at some) in (r.0, (Contains-there p r.0 ps r.1.0, (r.1.1.0, rw lack r.1.1.1)))
