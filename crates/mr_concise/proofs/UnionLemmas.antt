use Rattle.std.proofs.Common.{inl, inr, ◌≡◌, ◌<◌, ◌≤◌, ◌+◌, ◌==◌, ℕ, true, false, cond, refl, ap, sym, ◌∙◌, arith, List, [], ◌∷◌, ◌++◌, length, get_or, take, suc, zero, add-one, append_assoc, length-append}
use Rattle.mr_concise.proofs.Names.{AreColumns, AuthorColumn, Hole, IsColumn, IsRising, IsVectorFrom, cases_eq, cases_lt, column_has, column_of, empty_column}
use Rattle.mr_concise.proofs.Names.{eq-eqb, get_or-append_seam, get_or_append_left, hole_edges, is_on, nat_tests, ne_eqb, with_column, with_columns}
use Rattle.mr_concise.proofs.EdgeLemmas.{is_on-turn, is_on-stay, IsRising-end}
use Rattle.mr_concise.proofs.VectorLemmas.{IsVectorFrom-with_column}

pub IsColumn-empty : IsColumn empty_column
IsColumn-empty = record { apart = (omega arith, tt); in_range = omega arith; few = omega arith }

pub column_of-IsColumn : (low : ℕ) (xs : List AuthorColumn) (q : ℕ) → IsVectorFrom low xs → IsColumn (column_of xs q)
column_of-IsColumn low [] q v = IsColumn-empty
column_of-IsColumn low (x ∷ xs) q v = elim (cases_eq x.author q) [
  | inl e ↦ rw (eq-eqb x.author q e) v.2
  | inr n ↦ rw (ne_eqb x.author q n) (column_of-IsColumn (x.author + 1) xs q v.3)
]

pub column_of-under : (low : ℕ) (xs : List AuthorColumn) (k : ℕ) (d : AuthorColumn) → IsVectorFrom low xs → k < length xs → low ≤ (get_or xs k d).author
column_of-under low [] k d v l = absurd (omega arith)
column_of-under low (x ∷ xs) zero d v l = v.0
column_of-under low (x ∷ xs) (suc k) d v l = let h = column_of-under (x.author + 1) xs k d v.3 (omega arith) in let q = v.0 in omega arith

-- one column more of a vector
pub column_of-take_more : (low : ℕ) (xs : List AuthorColumn) (k : ℕ) (d : AuthorColumn) (q : ℕ) → IsVectorFrom low xs → k < length xs → column_of (take (suc k) xs) q ≡ cond ((get_or xs k d).author == q) (get_or xs k d).column (column_of (take k xs) q)
column_of-take_more low [] k d q v l = absurd (omega arith)
column_of-take_more low (x ∷ xs) zero d q v l = refl
column_of-take_more low (x ∷ xs) (suc k) d q v l = elim (cases_eq x.author q) [
  | inl e ↦
      let above = column_of-under (x.author + 1) xs k d v.3 (omega arith) in
      let ne : (get_or xs k d).author ≡ q → ⊥ = λ h. omega arith in
      rw (eq-eqb x.author q e, ne_eqb (get_or xs k d).author q ne) refl
  | inr n ↦ let ih = column_of-take_more (x.author + 1) xs k d q v.3 (omega arith) in rw (ne_eqb x.author q n) ih
]

-- before its place no column is the author's
pub column_of-take_before : (low : ℕ) (xs : List AuthorColumn) (k : ℕ) (d : AuthorColumn) → IsVectorFrom low xs → k < length xs → column_of (take k xs) (get_or xs k d).author ≡ empty_column
column_of-take_before low [] k d v l = absurd (omega arith)
column_of-take_before low (x ∷ xs) zero d v l = refl
column_of-take_before low (x ∷ xs) (suc k) d v l =
    let above = column_of-under (x.author + 1) xs k d v.3 (omega arith) in
    let ne : x.author ≡ (get_or xs k d).author → ⊥ = λ h. omega arith in
    rw (ne_eqb x.author (get_or xs k d).author ne) (column_of-take_before (x.author + 1) xs k d v.3 (omega arith))

pub column_has-empty : (c : ℕ) → column_has empty_column c ≡ false
column_has-empty c = grind (arith, nat_tests)

-- the bound is covered
pub bound-on : (low u : ℕ) (holes : List Hole) → IsRising low (hole_edges holes ++ (u + 1) ∷ []) → is_on true (hole_edges holes ++ (u + 1) ∷ []) u ≡ true
bound-on low u [] r = is_on-stay true (u + 1) [] u (omega arith)
bound-on low u (h ∷ holes) r =
    let end : h.last + 1 < u + 1 = IsRising-end (h.last + 1) (hole_edges holes) (u + 1) r.1.1 in
    is_on-turn true h.first ((h.last + 1) ∷ (hole_edges holes ++ (u + 1) ∷ [])) u (let q = r.1.0 in omega arith)
    ∙ is_on-turn false (h.last + 1) (hole_edges holes ++ (u + 1) ∷ []) u (omega arith)
    ∙ bound-on (h.last + 1) u holes r.1.1

pub column_of-item : (low : ℕ) (xs : List AuthorColumn) (k : ℕ) (x : AuthorColumn) → IsVectorFrom low xs → k < length xs → x ≡ get_or xs k x → column_of xs x.author ≡ x.column
column_of-item low [] k x v l at = absurd (omega arith)
column_of-item low (y ∷ ys) zero x v l at = rw (eq-eqb y.author x.author (ap (λ (z : AuthorColumn). z.author) (sym at))) (ap (λ (z : AuthorColumn). z.column) (sym at))
column_of-item low (y ∷ ys) (suc k) x v l at =
    let above = column_of-under (y.author + 1) ys k x v.3 (omega arith) in
    let is : (get_or ys k x).author ≡ x.author = ap (λ (z : AuthorColumn). z.author) (sym at) in
    let ne : y.author ≡ x.author → ⊥ = λ h. omega arith in
    rw (ne_eqb y.author x.author ne) (column_of-item (y.author + 1) ys k x v.3 (omega arith) at)

pub item-IsColumn : (low : ℕ) (xs : List AuthorColumn) (k : ℕ) (x : AuthorColumn) → IsVectorFrom low xs → k < length xs → x ≡ get_or xs k x → IsColumn x.column × (1 ≤ x.column.upto) × (x.author < 64)
item-IsColumn low [] k x v l at = absurd (omega arith)
item-IsColumn low (y ∷ ys) zero x v l at = rw at (v.2, v.1, v.4)
item-IsColumn low (y ∷ ys) (suc k) x v l at = item-IsColumn (y.author + 1) ys k x v.3 (omega arith) at

pub with_columns-push : (xs : List AuthorColumn) (x : AuthorColumn) (old : List AuthorColumn) → with_columns (xs ++ x ∷ []) old ≡ with_column x (with_columns xs old)
with_columns-push [] x old = refl
with_columns-push (y ∷ xs) x old = with_columns-push xs x (with_column y old)

-- one of the columns is put
pub with_columns-step : (xs rest : List AuthorColumn) (x : AuthorColumn) (old : List AuthorColumn) → AreColumns (xs ++ x ∷ rest) → IsVectorFrom 0 (with_columns xs old) → IsVectorFrom 0 (with_columns (xs ++ x ∷ []) old)
with_columns-step xs rest x old all v =
    let l : length xs < length (xs ++ x ∷ rest) = let e = length-append xs (x ∷ rest) in omega arith in
    let is = rw (get_or-append_seam xs x rest x) at (all (length xs) x l) in
    rw (with_columns-push xs x old) (IsVectorFrom-with_column 0 x (with_columns xs old) v (omega arith) is.0 is.1 is.2)

-- what one step of putting columns in their places keeps
pub record PutSoFar (changed old yielded left new : List AuthorColumn) (len capacity : ℕ) : Type 0 where
  pub is : new ≡ with_columns yielded old
  pub vector : IsVectorFrom 0 new
  pub whole : changed ≡ yielded ++ left
  pub room : len + length left ≤ capacity

pub PutSoFar-more : (changed old yielded left left' columns new : List AuthorColumn) (x : AuthorColumn) (len capacity len' capacity' : ℕ) → AreColumns changed → PutSoFar changed old yielded left columns len capacity → left ≡ x ∷ left' → new ≡ with_column x columns → len' ≤ len + 1 → capacity ≤ capacity' → PutSoFar changed old (yielded ++ x ∷ []) left' new len' capacity'
PutSoFar-more changed old yielded left left' columns new x len capacity len' capacity' all w next put l m = record {
  is = put ∙ ap (λ ys. with_column x ys) w.is ∙ sym (with_columns-push yielded x old);
  vector = rw (put ∙ ap (λ ys. with_column x ys) w.is ∙ sym (with_columns-push yielded x old)) (with_columns-step yielded left' x old (rw (w.whole, next) at all) (rw w.is at w.vector));
  whole = w.whole ∙ ap (λ ys. yielded ++ ys) next ∙ sym (append_assoc yielded (x ∷ []) left');
  room = let r = w.room in let k : length left ≡ length left' + 1 = ap length next ∙ sym (add-one (length left')) in omega arith;
}

-- one column of b more, which changes something
pub AreColumns-push : (xs : List AuthorColumn) (x : AuthorColumn) → AreColumns xs → 1 ≤ x.column.upto → IsColumn x.column → x.author < 64 → AreColumns (xs ++ x ∷ [])
AreColumns-push xs x all some is author k d l = elim (cases_lt k (length xs)) [
  | inl a ↦ rw (get_or_append_left xs (x ∷ []) d k a) (all k d a)
  | inr b ↦ let at : k ≡ length xs = let e = length-append xs (x ∷ []) in omega arith in rw (at, get_or-append_seam xs x [] d) (some, is, author)
]
