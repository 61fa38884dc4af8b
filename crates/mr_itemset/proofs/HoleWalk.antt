-- Holes by where they begin, a counter in one of them, and an author's column among others.
use Rattle.std.proofs.Common.{◌≡◌, ◌<◌, ◌≤◌, ◌+◌, ◌-◌, ◌&&◌, ◌||◌, ℕ, zero, suc, Bool, true, false, not, nat_le, List, [], ◌∷◌, ◌++◌, length, get_or, drop, Contains, refl, arith}
use Rattle.mr_itemset.proofs.Names.{AuthorColumn, Extent, Hole, IsColumn, IsNextOut, IsNonDecreasingBy, IsRising, cases_eq, cases_lt, column_has}
use Rattle.mr_itemset.proofs.Names.{column_has-edges, column_of, empty_column, eq-eqb, false≢true, hole_edges, hole_has, is_on, is_on-stay, is_on-turn}
use Rattle.mr_itemset.proofs.Names.{le-leb, list_any, lt-leb, max, min, ne_eqb}

first-above : (low : ℕ) (holes : List Hole) (end j : ℕ) (d : Hole) → IsRising low (hole_edges holes ++ end ∷ []) → j < length holes → low < (get_or holes j d).first
first-above low [] end j d r l = absurd (omega arith)
first-above low (h ∷ hs) end zero d r l = let a = r.0 in omega arith
first-above low (h ∷ hs) end (suc j) d r l = let a = r.0 in let b = r.1.0 in let ih = first-above (h.last + 1) hs end j d r.1.1 (omega arith) in omega arith

-- holes that rise begin in order
pub firsts-rise : (low : ℕ) (holes : List Hole) (end : ℕ) → IsRising low (hole_edges holes ++ end ∷ []) → IsNonDecreasingBy (λ h. h.first) holes
firsts-rise low [] end r i j d h l = absurd (omega arith)
firsts-rise low (x ∷ xs) end r zero zero d h l = omega arith
firsts-rise low (x ∷ xs) end r zero (suc j) d h l = let b = r.1.0 in let q = first-above (x.last + 1) xs end j d r.1.1 (omega arith) in omega arith
firsts-rise low (x ∷ xs) end r (suc i) zero d h l = absurd (omega arith)
firsts-rise low (x ∷ xs) end r (suc i) (suc j) d h l = firsts-rise (x.last + 1) xs end r.1.1 i j d (omega arith) (omega arith)

hole-ordered : (low : ℕ) (hs : List Hole) (end j : ℕ) (d : Hole) → IsRising low (hole_edges hs ++ end ∷ []) → j < length hs → (get_or hs j d).first ≤ (get_or hs j d).last
hole-ordered low [] end j d r l = absurd (omega arith)
hole-ordered low (h ∷ hs) end zero d r l = let a = r.1.0 in omega arith
hole-ordered low (h ∷ hs) end (suc j) d r l = hole-ordered (h.last + 1) hs end j d r.1.1 (omega arith)

or-right : (b : Bool) → (b || true) ≡ true
or-right b = grind arith

in-hole : (hs : List Hole) (j c : ℕ) (d : Hole) → j < length hs → (get_or hs j d).first ≤ c → c ≤ (get_or hs j d).last → list_any (λ hole. hole_has hole c) hs ≡ true
in-hole [] j c d l a b = absurd (omega arith)
in-hole (h ∷ hs) zero c d l a b = rw (le-leb h.first c a, le-leb c h.last b) refl
in-hole (h ∷ hs) (suc j) c d l a b = rw (in-hole hs j c d (omega arith) a b) (or-right (hole_has h c))

and-not-true : (b : Bool) → (b && not true) ≡ false
and-not-true b = grind arith

-- a counter in a hole is not covered
hole-lacks : (column : Extent) (j c : ℕ) (d : Hole) → j < length column.holes → (get_or column.holes j d).first ≤ c → c ≤ (get_or column.holes j d).last → column_has column c ≡ false
hole-lacks column j c d l a b = rw (in-hole column.holes j c d l a b) (and-not-true (nat_le 1 c && nat_le c column.upto))

-- nor is one above the bound
pub above_lacks : (column : Extent) (c : ℕ) → column.upto < c → column_has column c ≡ false
above_lacks column c above = grind (arith, lt-leb, nat_le)

-- the last counter of a hole, but before an end, and no lower than one that is not covered
pub last_lacks : (column : Extent) (hole : Hole) (first end r : ℕ) → IsColumn column → Contains column.holes hole → hole.first < end → column_has column first ≡ false → r ≡ max (min hole.last (end - 1)) first → column_has column r ≡ false
last_lacks column hole first end r normal there begun lacks is = grind (arith, cases_lt, hole-ordered, hole-lacks)

-- ---- columns that begin alike

-- behind a hole that two columns share they may differ
behind_same : (h : Hole) (xs ys : List ℕ) (c : ℕ) → (h.last + 1 ≤ c → is_on true xs c ≡ is_on true ys c) → is_on true (h.first ∷ (h.last + 1) ∷ xs) c ≡ is_on true (h.first ∷ (h.last + 1) ∷ ys) c
behind_same h xs ys c rest = grind (arith, cases_lt, is_on-stay, is_on-turn)

-- up to the last of the holes that they share they are the same
alike_to : (hs gs : List Hole) (xs ys : List ℕ) (n : ℕ) (d : Hole) (c : ℕ) → n < length hs → n < length gs → ((k : ℕ) (e : Hole) → k ≤ n → get_or hs k e ≡ get_or gs k e) → c ≤ (get_or hs n d).last
    → is_on true (hole_edges hs ++ xs) c ≡ is_on true (hole_edges gs ++ ys) c
alike_to [] gs xs ys n d c in_hs in_gs same up = absurd (omega arith)
alike_to (h ∷ hs) [] xs ys n d c in_hs in_gs same up = absurd (omega arith)
alike_to (h ∷ hs) (g ∷ gs) xs ys zero d c in_hs in_gs same up =
    rw (← same 0 d (omega arith)) (behind_same h (hole_edges hs ++ xs) (hole_edges gs ++ ys) c (λ past. absurd (omega arith)))
alike_to (h ∷ hs) (g ∷ gs) xs ys (suc n) d c in_hs in_gs same up =
    rw (← same 0 d (omega arith)) (behind_same h (hole_edges hs ++ xs) (hole_edges gs ++ ys) c (λ past. alike_to hs gs xs ys n d c (omega arith) (omega arith) (λ k e le. same (suc k) e (omega arith)) up))

-- so they have the same counters up to there
pub columns_alike : (all own : Extent) (n : ℕ) (d : Hole) (c : ℕ) → IsColumn all → IsColumn own → n < length all.holes → n < length own.holes → ((k : ℕ) (e : Hole) → k ≤ n → get_or all.holes k e ≡ get_or own.holes k e) → c ≤ (get_or all.holes n d).last
    → column_has all c ≡ column_has own c
columns_alike all own n d c of_all of_own in_all in_own same up = grind (arith, column_has-edges, alike_to)

-- ---- an author's column

-- it is not the column of another author
pub column_passed : (xs : List AuthorColumn) (i author : ℕ) (x : AuthorColumn) → i < length xs → x ≡ get_or xs i x → (x.author ≡ author → ⊥) → column_of (drop i xs) author ≡ column_of (drop (suc i) xs) author
column_passed [] i author x within is other = absurd (omega arith)
column_passed (y ∷ ys) zero author x within is other = grind (arith, ne_eqb)
column_passed (y ∷ ys) (suc i) author x within is other = column_passed ys i author x (omega arith) is other

-- it is that of the author
pub column_found : (xs : List AuthorColumn) (i author : ℕ) (x : AuthorColumn) → i < length xs → x ≡ get_or xs i x → x.author ≡ author → column_of (drop i xs) author ≡ x.column
column_found [] i author x within is same = absurd (omega arith)
column_found (y ∷ ys) zero author x within is same = grind (arith, eq-eqb)
column_found (y ∷ ys) (suc i) author x within is same = column_found ys i author x (omega arith) is same

-- behind all of them there is none
pub column_none : (xs : List AuthorColumn) (i author : ℕ) → length xs ≤ i → column_of (drop i xs) author ≡ empty_column
column_none [] zero author past = refl
column_none [] (suc i) author past = refl
column_none (y ∷ ys) zero author past = absurd (omega arith)
column_none (y ∷ ys) (suc i) author past = column_none ys i author (omega arith)

-- ---- a stretch that the item has

-- it goes on past a counter that the item has
pub row_end : (own : ℕ → Bool) (first end : ℕ) → own first ≡ true → IsNextOut own first end → first < end
row_end own first end has out = grind (arith, cases_eq, false≢true)
