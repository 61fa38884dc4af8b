use Rattle.std.proofs.Common.{◌≡◌, ◌≤◌, ◌+◌, ◌⊎◌, suc, Bool, true, false, cond, List, [], ◌∷◌, length, All, AllPairs, refl, ap, sym, ◌∙◌, arith, inl, inr}
use Rattle.mr_itemset.proofs.Names.{All-cons, All-head, All-nil, All-tail, All-weaker, AllPairs-head, AllPairs-tail, AuthorColumn, IsBefore, Less, Listed}
use Rattle.mr_itemset.proofs.Names.{Name, Ordering, cases_Bool, exact_names, false≢true, is_eq, is_lt, name_cmp, name_eq, name_eq-itself, name_eq-symmetric}
use Rattle.mr_itemset.proofs.Names.{names_total, ordering_reverse, placed, vector_in}
use Rattle.mr_itemset.proofs.NormalLemmas.{same_name}

-- ---- two names

pub name_cases : (a b : Name) (o : Ordering) → name_cmp a b ≡ o → (name_cmp a b ≡ Less) ⊎ ((a ≡ b) ⊎ (name_cmp b a ≡ Less))
name_cases a b o e = grind (arith, exact_names, names_total)

pub not_lt-more : (a b : Name) → name_cmp b a ≡ Less → is_lt (name_cmp a b) ≡ false
not_lt-more a b more = ap is_lt (names_total.antisymm a b ∙ ap ordering_reverse more)

pub not_lt-same : (a b : Name) → a ≡ b → is_lt (name_cmp a b) ≡ false
not_lt-same a b e = grind (arith, cases_Bool, name_eq-itself, false≢true)

pub same_test : (a b : Name) → a ≡ b → name_eq a b ≡ true
same_test a b e = ap (λ (z : Name). name_eq a z) (sym e) ∙ name_eq-itself a

pub other_test : (a b : Name) → name_cmp b a ≡ Less → name_eq a b ≡ false
other_test a b more = name_eq-symmetric a b ∙ ap is_eq more

-- ---- what holds of the placed ones

AllPairs-cons : (R : Listed → Listed → Type 0) (x : Listed) (xs : List Listed) → All (R x) xs → AllPairs R xs → AllPairs R (x ∷ xs)
AllPairs-cons R x xs first rest h k d less within = grind arith

pub All-placed : (P : Listed → Type 0) (new : Listed) (xs : List Listed) → All P xs → P new → All P (placed new xs)
All-placed P new [] all here = All-cons P new [] here all
All-placed P new (x ∷ xs) all here = go (name_cases x.item new.item (name_cmp x.item new.item) refl) (All-placed P new xs (All-tail P x xs all) here)
  where
    go : (name_cmp x.item new.item ≡ Less) ⊎ ((x.item ≡ new.item) ⊎ (name_cmp new.item x.item ≡ Less)) → All P (placed new xs) → All P (placed new (x ∷ xs))
    go (inl less) rest = rw (ap is_lt less) (All-cons P x (placed new xs) (All-head P x xs all) rest)
    go (inr (inl same)) rest = rw (not_lt-same x.item new.item same, same_test x.item new.item same) (All-cons P new xs here (All-tail P x xs all))
    go (inr (inr more)) rest = rw (not_lt-more x.item new.item more, other_test x.item new.item more) (All-cons P new (x ∷ xs) here all)

pub rising-placed : (new : Listed) (xs : List Listed) → AllPairs IsBefore xs → AllPairs IsBefore (placed new xs)
rising-placed new [] rising = AllPairs-cons IsBefore new [] (All-nil (IsBefore new)) rising
rising-placed new (x ∷ xs) rising = go (name_cases x.item new.item (name_cmp x.item new.item) refl) (rising-placed new xs (AllPairs-tail IsBefore x xs rising))
  where
    after : All (IsBefore x) xs
    after = AllPairs-head IsBefore x xs rising

    go : (name_cmp x.item new.item ≡ Less) ⊎ ((x.item ≡ new.item) ⊎ (name_cmp new.item x.item ≡ Less)) → AllPairs IsBefore (placed new xs) → AllPairs IsBefore (placed new (x ∷ xs))
    go (inl less) rest = rw (ap is_lt less) (AllPairs-cons IsBefore x (placed new xs) (All-placed (IsBefore x) new xs after less) rest)
    go (inr (inl same)) rest = rw (not_lt-same x.item new.item same, same_test x.item new.item same) (AllPairs-cons IsBefore new xs (All-weaker (IsBefore x) (IsBefore new) (λ y before. rw (← same) before) xs after) (AllPairs-tail IsBefore x xs rising))
    go (inr (inr more)) rest = rw (not_lt-more x.item new.item more, other_test x.item new.item more)
        (AllPairs-cons IsBefore new (x ∷ xs) (All-cons (IsBefore new) x xs more (All-weaker (IsBefore x) (IsBefore new) (λ y before. names_total.trans new.item x.item y.item more before) xs after)) rising)

pub length-placed : (new : Listed) (xs : List Listed) → length (placed new xs) ≤ length xs + 1
length-placed new [] = omega arith
length-placed new (x ∷ xs) = go (name_cases x.item new.item (name_cmp x.item new.item) refl) (length-placed new xs)
  where
    go : (name_cmp x.item new.item ≡ Less) ⊎ ((x.item ≡ new.item) ⊎ (name_cmp new.item x.item ≡ Less)) → length (placed new xs) ≤ length xs + 1 → length (placed new (x ∷ xs)) ≤ suc (length xs) + 1
    go (inl less) rest = rw (ap is_lt less) (omega arith)
    go (inr (inl same)) rest = rw (not_lt-same x.item new.item same, same_test x.item new.item same) (omega arith)
    go (inr (inr more)) rest = rw (not_lt-more x.item new.item more, other_test x.item new.item more) (omega arith)

-- what is known once an item is placed
pub vector_in-placed : (all : List AuthorColumn) (new : Listed) (xs : List Listed) (i : Name) → vector_in all (placed new xs) i ≡ cond (name_eq new.item i) new.vector (vector_in all xs i)
vector_in-placed all new [] i = refl
vector_in-placed all new (x ∷ xs) i = go (name_cases x.item new.item (name_cmp x.item new.item) refl) (vector_in-placed all new xs i)
  where
    swallow : (b : Bool) (p q r : List AuthorColumn) → cond b p r ≡ cond b p (cond b q r)
    swallow true p q r = refl
    swallow false p q r = refl

    exchange : (a n : Bool) (p q r : List AuthorColumn) → (a ≡ true → n ≡ true → ⊥) → cond a p (cond n q r) ≡ cond n q (cond a p r)
    exchange true true p q r apart = absurd (apart refl refl)
    exchange true false p q r apart = refl
    exchange false n p q r apart = refl

    go : (name_cmp x.item new.item ≡ Less) ⊎ ((x.item ≡ new.item) ⊎ (name_cmp new.item x.item ≡ Less)) → vector_in all (placed new xs) i ≡ cond (name_eq new.item i) new.vector (vector_in all xs i) → vector_in all (placed new (x ∷ xs)) i ≡ cond (name_eq new.item i) new.vector (vector_in all (x ∷ xs) i)
    go (inl less) rest =
        rw (ap is_lt less, rest) (exchange (name_eq x.item i) (name_eq new.item i) x.vector new.vector (vector_in all xs i)
        (λ here there. let e : x.item ≡ new.item = same_name x.item i here ∙ sym (same_name new.item i there) in false≢true (sym (ap is_eq less) ∙ same_test x.item new.item e)))
    go (inr (inl same)) rest = rw (not_lt-same x.item new.item same, same_test x.item new.item same, same) (swallow (name_eq new.item i) new.vector x.vector (vector_in all xs i))
    go (inr (inr more)) rest = rw (not_lt-more x.item new.item more, other_test x.item new.item more) refl
