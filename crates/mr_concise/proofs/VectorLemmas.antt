use Rattle.std.proofs.Common.{inl, inr, ◌⊎◌, ◌≡◌, ◌<◌, ◌≤◌, ◌+◌, ◌==◌, ℕ, true, false, nat_lt, cond, refl, ap, sym, ◌∙◌, arith, List, [], ◌∷◌, ◌++◌, length, get_or, take, drop, set, suc, zero}
use Rattle.mr_concise.proofs.Names.{AuthorColumn, Extent, IsColumn, IsNonDecreasingBy, IsVectorFrom, cases_eq, cases_order, column_of, empty_column, eq-eqb}
use Rattle.mr_concise.proofs.Names.{get_or_default, le-ltb, lt-ltb, ltb-false, ltb-true, ne_eqb, with_column}

author-above : (low : ℕ) (xs : List AuthorColumn) (j : ℕ) (d : AuthorColumn) → IsVectorFrom low xs → j < length xs → low ≤ (get_or xs j d).author
author-above low [] j d v l = absurd (omega arith)
author-above low (x ∷ xs) zero d v l = v.0
author-above low (x ∷ xs) (suc j) d v l = let h = author-above (x.author + 1) xs j d v.3 (omega arith) in let q = v.0 in omega arith

pub authors-rise : (low : ℕ) (xs : List AuthorColumn) → IsVectorFrom low xs → IsNonDecreasingBy (λ x. x.author) xs
authors-rise low [] v i j d h l = absurd (omega arith)
authors-rise low (x ∷ xs) v zero zero d h l = omega arith
authors-rise low (x ∷ xs) v zero (suc j) d h l = let q = author-above (x.author + 1) xs j d v.3 (omega arith) in omega arith
authors-rise low (x ∷ xs) v (suc i) zero d h l = absurd (omega arith)
authors-rise low (x ∷ xs) v (suc i) (suc j) d h l = authors-rise (x.author + 1) xs v.3 i j d (omega arith) (omega arith)

-- below low no author has a column
column_of-below : (low : ℕ) (xs : List AuthorColumn) (q : ℕ) → IsVectorFrom low xs → q < low → column_of xs q ≡ empty_column
column_of-below low [] q v l = refl
column_of-below low (x ∷ xs) q v l = let ne : x.author ≡ q → ⊥ = λ e. let h = v.0 in omega arith in rw (ne_eqb x.author q ne) (column_of-below (x.author + 1) xs q v.3 (let h = v.0 in omega arith))

-- ONE FORM: vectors that have the same columns are the same
pub vector_unique : (low high : ℕ) (xs ys : List AuthorColumn) → IsVectorFrom low xs → IsVectorFrom high ys → ((q : ℕ) → column_of xs q ≡ column_of ys q) → xs ≡ ys
vector_unique low high [] [] v w h = refl
vector_unique low high [] (y ∷ ys) v w h = let e : empty_column ≡ y.column = rw (eq-eqb y.author y.author refl) at (h y.author) in absurd (let u : 0 ≡ y.column.upto = ap (λ (c : Extent). c.upto) e in let o = w.1 in omega arith)
vector_unique low high (x ∷ xs) [] v w h = let e : x.column ≡ empty_column = rw (eq-eqb x.author x.author refl) at (h x.author) in absurd (let u : x.column.upto ≡ 0 = ap (λ (c : Extent). c.upto) e in let o = v.1 in omega arith)
vector_unique low high (x ∷ xs) (y ∷ ys) v w h = heads (cases_order x.author y.author) (λ rest. vector_unique (x.author + 1) (y.author + 1) xs ys v.3 w.3 rest)
  where
    tails : x.author ≡ y.author → (q : ℕ) → column_of xs q ≡ column_of ys q
    tails e q = elim (cases_eq x.author q) [
      | inl i ↦ column_of-below (x.author + 1) xs q v.3 (omega arith) ∙ sym (column_of-below (y.author + 1) ys q w.3 (omega arith))
      | inr n ↦ let m : y.author ≡ q → ⊥ = λ k. n (e ∙ k) in rw (ne_eqb x.author q n, ne_eqb y.author q m) at (h q)
    ]

    first : x.author ≡ y.author → x.column ≡ y.column
    first e = rw (eq-eqb x.author x.author refl, eq-eqb y.author x.author (sym e)) at (h x.author)

    heads : (x.author ≡ y.author) ⊎ ((x.author < y.author) ⊎ (y.author < x.author)) → (((q : ℕ) → column_of xs q ≡ column_of ys q) → xs ≡ ys) → (x ∷ xs) ≡ (y ∷ ys)
    heads (inl e) rest =
        let r = rest (tails e) in
        let one : x ≡ y = ap (λ (a : ℕ). record { author = a; column = x.column }) e ∙ ap (λ (c : Extent). record { author = y.author; column = c }) (first e) in cc
    heads (inr (inl l)) rest =
        let n : y.author ≡ x.author → ⊥ = λ k. omega arith in
        let e : x.column ≡ column_of ys x.author = rw (eq-eqb x.author x.author refl, ne_eqb y.author x.author n) at (h x.author) in
        let u : x.column.upto ≡ 0 = ap (λ (c : Extent). c.upto) (e ∙ column_of-below (y.author + 1) ys x.author w.3 (omega arith)) in
        absurd (let o = v.1 in omega arith)
    heads (inr (inr g)) rest =
        let n : x.author ≡ y.author → ⊥ = λ k. omega arith in
        let e : column_of xs y.author ≡ y.column = rw (eq-eqb y.author y.author refl, ne_eqb x.author y.author n) at (h y.author) in
        let u : y.column.upto ≡ 0 = ap (λ (c : Extent). c.upto) (sym e ∙ column_of-below (x.author + 1) xs y.author v.3 (omega arith)) in
        absurd (let o = w.1 in omega arith)

-- a column put in its place
pub IsVectorFrom-with_column : (low : ℕ) (new : AuthorColumn) (xs : List AuthorColumn) → IsVectorFrom low xs → low ≤ new.author → 1 ≤ new.column.upto → IsColumn new.column → new.author < 64 → IsVectorFrom low (with_column new xs)
IsVectorFrom-with_column low new [] v l u c i = (l, u, c, tt, i)
IsVectorFrom-with_column low new (x ∷ xs) v l u c i = elim (cases_order x.author new.author) [
  | inl e ↦ let ge : new.author ≤ x.author = omega arith in rw (le-ltb x.author new.author ge, eq-eqb x.author new.author e) (l, u, c, rw (← e) v.3, i)
  | inr (inl lt) ↦ rw (lt-ltb x.author new.author lt) (v.0, v.1, v.2, IsVectorFrom-with_column (x.author + 1) new xs v.3 (omega arith) u c i, v.4)
  | inr (inr gt) ↦ let ge : new.author ≤ x.author = omega arith in let ne : x.author ≡ new.author → ⊥ = λ k. omega arith in rw (le-ltb x.author new.author ge, ne_eqb x.author new.author ne) (l, u, c, (omega arith, v.1, v.2, v.3, v.4), i)
]

pub column_of-with_column : (new : AuthorColumn) (xs : List AuthorColumn) (q : ℕ) → column_of (with_column new xs) q ≡ cond (new.author == q) new.column (column_of xs q)
column_of-with_column new [] q = refl
column_of-with_column new (x ∷ xs) q = grind (arith, column_of-with_column new xs q, cases_order, le-ltb, eq-eqb, lt-ltb, ne_eqb, cases_eq)

-- the place is where a column is put in
pub with_column-insert : (new : AuthorColumn) (xs : List AuthorColumn) (i : ℕ) → ((k : ℕ) (d : AuthorColumn) → k < i → (get_or xs k d).author < new.author) → ((d : AuthorColumn) → i < length xs → new.author < (get_or xs i d).author) → i ≤ length xs → with_column new xs ≡ take i xs ++ new ∷ drop i xs
with_column-insert new [] zero before from l = refl
with_column-insert new [] (suc i) before from l = absurd (omega arith)
with_column-insert new (x ∷ xs) zero before from l = let gt : new.author < x.author = from x (omega arith) in let ge : new.author ≤ x.author = omega arith in let ne : x.author ≡ new.author → ⊥ = λ k. omega arith in rw (le-ltb x.author new.author ge, ne_eqb x.author new.author ne) refl
with_column-insert new (x ∷ xs) (suc i) before from l = rw (lt-ltb x.author new.author (before 0 x (omega arith))) (ap (λ ys. x ∷ ys) (with_column-insert new xs i (λ k d h. before (suc k) d (omega arith)) (λ d h. from d (omega arith)) (omega arith)))

-- behind all others it is put at the end
pub push-with_column : (new : AuthorColumn) (xs : List AuthorColumn) (i : ℕ) → ((k : ℕ) (d : AuthorColumn) → 0 ≤ k → k < i → nat_lt (get_or xs k d).author new.author ≡ true) → i ≡ length xs → (xs ++ new ∷ []) ≡ with_column new xs
push-with_column new [] zero before end = refl
push-with_column new [] (suc i) before end = absurd (omega arith)
push-with_column new (x ∷ xs) zero before end = absurd (omega arith)
push-with_column new (x ∷ xs) (suc i) before end =
    rw (before 0 x (omega arith) (omega arith)) (ap (λ ys. x ∷ ys) (push-with_column new xs i (λ k d z h. before (suc k) d (omega arith) (omega arith)) (omega arith)))

pub with_column-set : (new : AuthorColumn) (xs : List AuthorColumn) (i : ℕ) → ((k : ℕ) (d : AuthorColumn) → k < i → (get_or xs k d).author < new.author) → ((d : AuthorColumn) → new.author ≡ (get_or xs i d).author) → i < length xs → with_column new xs ≡ set xs i new
with_column-set new [] i before at l = absurd (omega arith)
with_column-set new (x ∷ xs) zero before at l = let e : new.author ≡ x.author = at x in let ge : new.author ≤ x.author = omega arith in rw (le-ltb x.author new.author ge, eq-eqb x.author new.author (sym e)) refl
with_column-set new (x ∷ xs) (suc i) before at l = rw (lt-ltb x.author new.author (before 0 x (omega arith))) (ap (λ ys. x ∷ ys) (with_column-set new xs i (λ k d h. before (suc k) d (omega arith)) (λ d. at d) (omega arith)))

-- the place is where the column is, or would be
pub column_of-at : (xs : List AuthorColumn) (i a : ℕ) (x : AuthorColumn) → ((k : ℕ) (d : AuthorColumn) → 0 ≤ k → k < i → nat_lt (get_or xs k d).author a ≡ true) → i < length xs → x ≡ get_or xs i x → x.author ≡ a → x.column ≡ column_of xs a
column_of-at [] i a x before l at e = absurd (omega arith)
column_of-at (y ∷ ys) zero a x before l at e = let h : y.author ≡ a = ap (λ (z : AuthorColumn). z.author) (sym at) ∙ e in rw (eq-eqb y.author a h) (ap (λ (z : AuthorColumn). z.column) at)
column_of-at (y ∷ ys) (suc i) a x before l at e =
    let lt : y.author < a = ltb-true y.author a (before 0 y (omega arith) (omega arith)) in
    let ne : y.author ≡ a → ⊥ = λ h. omega arith in
    rw (ne_eqb y.author a ne) (column_of-at ys i a x (λ k d z h. before (suc k) d (omega arith) (omega arith)) (omega arith) at e)

pub column_of-past : (xs : List AuthorColumn) (i a : ℕ) → ((k : ℕ) (d : AuthorColumn) → 0 ≤ k → k < i → nat_lt (get_or xs k d).author a ≡ true) → length xs ≤ i → column_of xs a ≡ empty_column
column_of-past [] i a before l = refl
column_of-past (y ∷ ys) zero a before l = absurd (omega arith)
column_of-past (y ∷ ys) (suc i) a before l =
    let lt : y.author < a = ltb-true y.author a (before 0 y (omega arith) (omega arith)) in
    let ne : y.author ≡ a → ⊥ = λ h. omega arith in
    rw (ne_eqb y.author a ne) (column_of-past ys i a (λ k d z h. before (suc k) d (omega arith) (omega arith)) (omega arith))

pub column_of-missed : (low : ℕ) (xs : List AuthorColumn) (i a : ℕ) (x : AuthorColumn) → IsVectorFrom low xs → ((k : ℕ) (d : AuthorColumn) → 0 ≤ k → k < i → nat_lt (get_or xs k d).author a ≡ true) → i < length xs → x ≡ get_or xs i x → nat_lt x.author a ≡ false → (x.author ≡ a → ⊥) → column_of xs a ≡ empty_column
column_of-missed low [] i a x v before l at g n = absurd (omega arith)
column_of-missed low (y ∷ ys) zero a x v before l at g n =
    let h : x.author ≡ y.author = ap (λ (z : AuthorColumn). z.author) at in
    let le : a ≤ x.author = ltb-false x.author a g in
    let ne : y.author ≡ a → ⊥ = λ k. n (h ∙ k) in
    rw (ne_eqb y.author a ne) (column_of-below (y.author + 1) ys a v.3 (omega arith))
column_of-missed low (y ∷ ys) (suc i) a x v before l at g n =
    let lt : y.author < a = ltb-true y.author a (before 0 y (omega arith) (omega arith)) in
    let ne : y.author ≡ a → ⊥ = λ h. omega arith in
    rw (ne_eqb y.author a ne) (column_of-missed (y.author + 1) ys i a x v.3 (λ k d z h. before (suc k) d (omega arith) (omega arith)) (omega arith) at g n)

pub set-with_column : (new : AuthorColumn) (xs : List AuthorColumn) (i : ℕ) (x : AuthorColumn) → ((k : ℕ) (d : AuthorColumn) → 0 ≤ k → k < i → nat_lt (get_or xs k d).author new.author ≡ true) → i < length xs → x ≡ get_or xs i x → x.author ≡ new.author → set xs i new ≡ with_column new xs
set-with_column new xs i x before l at e = sym (with_column-set new xs i (λ k d h. ltb-true (get_or xs k d).author new.author (before k d (omega arith) h)) (λ d. sym (ap (λ (z : AuthorColumn). z.author) (get_or_default xs i d x l ∙ sym at) ∙ e)) l)

pub insert-with_column : (new : AuthorColumn) (xs : List AuthorColumn) (i : ℕ) → ((k : ℕ) (d : AuthorColumn) → 0 ≤ k → k < i → nat_lt (get_or xs k d).author new.author ≡ true) → ((d : AuthorColumn) → i < length xs → new.author < (get_or xs i d).author) → i ≤ length xs → take i xs ++ new ∷ drop i xs ≡ with_column new xs
insert-with_column new xs i before from l = sym (with_column-insert new xs i (λ k d h. ltb-true (get_or xs k d).author new.author (before k d (omega arith) h)) from l)

pub above-place : (new : AuthorColumn) (xs : List AuthorColumn) (i : ℕ) (x : AuthorColumn) → ((k : ℕ) (d : AuthorColumn) → i ≤ k → k < length xs → nat_lt (get_or xs k d).author new.author ≡ false) → i < length xs → x ≡ get_or xs i x → (x.author ≡ new.author → ⊥) → (d : AuthorColumn) → new.author < (get_or xs i d).author
above-place new xs i x from l at n d = grind (arith, get_or_default, ltb-false)
