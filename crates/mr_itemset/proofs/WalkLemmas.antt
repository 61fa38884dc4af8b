use Rattle.std.proofs.Common.{◌≡◌, ◌⊎◌, List, [], ◌∷◌, ◌++◌, Option, Some, None, map, All, AllPairs, Contains, refl, ap, sym, ◌∙◌, arith, inl, inr}
use Rattle.mr_itemset.proofs.Names.{All-cons, All-contains, All-head, All-map, All-nil, All-tail, AllPairs-head, AllPairs-tail, AuthorColumn}
use Rattle.mr_itemset.proofs.Names.{Contains-append_right, Contains-cases, Contains-here, Contains-there, IsBefore, Listed, Name, TakesFirst, append-nil}
use Rattle.mr_itemset.proofs.Names.{deref, deref_pair, iter_end, listed_as, listed_of, map-append, rest_all, rest_more, rest_so_far, vectors_of}
use Rattle.std.specs.Iterator.{Yields}
use denote.Ref.{Bor}

-- ---- a loop over the vectors

-- what holds of the vectors holds of the items
All-vectors : (P : List AuthorColumn → Type 0) (xs : List Listed) → All P (vectors_of xs) → All (λ x. P x.vector) xs
All-vectors P [] all = All-nil (λ x. P x.vector)
All-vectors P (x ∷ xs) all = All-cons (λ y. P y.vector) x xs (All-head P x.vector (vectors_of xs) all) (All-vectors P xs (All-tail P x.vector (vectors_of xs) all))

-- the loop over the vectors has read all of them
pub All-read : (P : List AuthorColumn → Type 0) (xs : List Listed) (read : List (Bor (List AuthorColumn))) (s t u : List (List AuthorColumn)) (r : Option (Bor (List AuthorColumn))) → s ≡ vectors_of xs → Yields (TakesFirst deref) s read t → r ≡ None → TakesFirst deref t r u → All (λ vector. P vector.now) read → All (λ x. P x.vector) xs
All-read P xs read s t u r start y none step each = All-vectors P xs (rw (← (iter_end deref (vectors_of xs) read s t u r start y none step).0) (All-map P deref read each))

-- the vector that it reads is an item's
pub read_vector : (xs : List Listed) (read : List (Bor (List AuthorColumn))) (s t u : List (List AuthorColumn)) (r : Option (Bor (List AuthorColumn))) (vector : Bor (List AuthorColumn)) → s ≡ vectors_of xs → Yields (TakesFirst deref) s read t → r ≡ Some vector → TakesFirst deref t r u → (x : Listed) × (Contains xs x × (x.vector ≡ vector.now))
read_vector xs read s t u r vector start y is step = whose xs (rw (← start, rest_so_far deref read s t y, rest_more deref t u r vector is step) (Contains-append_right (map deref read) (vector.now ∷ u) vector.now (Contains-here vector.now u)))
  where
    whose : (xs : List Listed) → Contains (vectors_of xs) vector.now → (x : Listed) × (Contains xs x × (x.vector ≡ vector.now))
    whose [] has = let within = has.1 in absurd (omega arith)
    whose (x ∷ xs) has = go (Contains-cases x.vector vector.now (vectors_of xs) has) (λ there. whose xs there)
      where
        go : (x.vector ≡ vector.now) ⊎ Contains (vectors_of xs) vector.now → (Contains (vectors_of xs) vector.now → (y : Listed) × (Contains xs y × (y.vector ≡ vector.now))) → (y : Listed) × (Contains (x ∷ xs) y × (y.vector ≡ vector.now))
        go (inl here) rest = (x, (Contains-here x xs, here))
        go (inr there) rest = let found = rest there in (found.0, (Contains-there x found.0 xs found.1.0, found.1.1))

-- ---- a loop over the entries

-- the item of an entry that is lent
abbrev pub lent : Bor Name × Bor (List AuthorColumn) → Listed
lent e = listed_as e.0.now e.1.now

lent_items : (es : List (Bor Name × Bor (List AuthorColumn))) → listed_of (map deref_pair es) ≡ map lent es
lent_items [] = refl
lent_items (e ∷ es) = ap (λ (xs : List Listed). lent e ∷ xs) (lent_items es)

-- the items that a loop over the entries has read, and those that are left
pub items_so_far : (read : List (Bor Name × Bor (List AuthorColumn))) (s t : List (Name × List AuthorColumn)) → Yields (TakesFirst deref_pair) s read t → listed_of s ≡ map lent read ++ listed_of t
items_so_far read s t y = rw (rest_so_far deref_pair read s t y) (map-append (λ e. listed_as e.0 e.1) (map deref_pair read) t ∙ ap (λ (xs : List Listed). xs ++ listed_of t) (lent_items read))

-- with one item more
pub items_more : (read : List (Bor Name × Bor (List AuthorColumn))) (e : Bor Name × Bor (List AuthorColumn)) → map lent (read ++ e ∷ []) ≡ map lent read ++ lent e ∷ []
items_more read e = map-append lent read (e ∷ [])

-- the item that it reads next
pub items_next : (xs : List Listed) (read : List (Bor Name × Bor (List AuthorColumn))) (s t u : List (Name × List AuthorColumn)) (r : Option (Bor Name × Bor (List AuthorColumn))) (e : Bor Name × Bor (List AuthorColumn)) → listed_of s ≡ xs → Yields (TakesFirst deref_pair) s read t → r ≡ Some e → TakesFirst deref_pair t r u → xs ≡ map lent read ++ lent e ∷ listed_of u
items_next xs read s t u r e start y is step = sym start ∙ items_so_far read s t y ∙ ap (λ (es : List (Name × List AuthorColumn)). map lent read ++ listed_of es) (rest_more deref_pair t u r e is step)

-- at the end it has read all of them
pub items_all : (xs : List Listed) (read : List (Bor Name × Bor (List AuthorColumn))) (s t u : List (Name × List AuthorColumn)) (r : Option (Bor Name × Bor (List AuthorColumn))) → listed_of s ≡ xs → Yields (TakesFirst deref_pair) s read t → r ≡ None → TakesFirst deref_pair t r u → map lent read ≡ xs
items_all xs read s t u r start y none step = sym (append-nil (map lent read)) ∙ sym (ap (λ (es : List (Name × List AuthorColumn)). map lent read ++ listed_of es) (rest_all deref_pair t u r none step)) ∙ sym (items_so_far read s t y) ∙ start

-- where items rise, those before one are lower
pub lower_before : (xs ys : List Listed) (x : Listed) → AllPairs IsBefore (xs ++ x ∷ ys) → All (λ y. IsBefore y x) xs
lower_before [] ys x rising = All-nil (λ y. IsBefore y x)
lower_before (z ∷ zs) ys x rising =
    All-cons (λ y. IsBefore y x) z zs (All-contains (IsBefore z) (zs ++ x ∷ ys) x (AllPairs-head IsBefore z (zs ++ x ∷ ys) rising) (Contains-append_right zs (x ∷ ys) x (Contains-here x ys)))
    (lower_before zs ys x (AllPairs-tail IsBefore z (zs ++ x ∷ ys) rising))

-- an item between others is one of them
pub Contains-middle : (xs ys zs : List Listed) (x : Listed) → xs ≡ ys ++ x ∷ zs → Contains xs x
Contains-middle xs ys zs x whole = rw whole (Contains-append_right ys (x ∷ zs) x (Contains-here x zs))
