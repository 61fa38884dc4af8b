use Rattle.std.proofs.Common.{◌≡◌, ◌≤◌, ◌<◌, ◌+◌, ◌⊎◌, inl, inr, nat_lt, ap, sym, get_or, length, ℕ, true, false, nat_le, refl, ◌∙◌, arith, List, [], ◌∷◌}
use Rattle.mr_concise.proofs.Names.{AuthorColumn, Extent, HasNoAuthorFrom, HasVersionsAlone, IsColumn, IsNextAuthor, IsPartitionPoint, IsVectorFrom}
use Rattle.mr_concise.proofs.Names.{IsVersion, and_parts, and_right, cases_lt, column_has, column_of, empty_column, false≢true, le-ltb, leb-true, lt-leb}
use Rattle.mr_concise.proofs.Names.{lt-ltb, ltb-false, ltb-true, ne_eqb, vector_has}
use Rattle.mr_concise.proofs.VectorLemmas.{column_of-missed, column_of-past}
use Rattle.mr_concise.specs.Last.{IsLast}
use Rattle.mr_concise.proofs.ColumnLemmas.{column_has-edges}
use Rattle.mr_concise.proofs.UnionLemmas.{column_of-IsColumn, bound-on, item-IsColumn, column_has-empty}

pub column_has-above : (column : Extent) (c : ℕ) → column.upto < c → column_has column c ≡ false
column_has-above column c l = rw (lt-leb c column.upto l, and_right (nat_le 1 c) false refl) refl

-- the bound is the author's last
pub bound-is_last : (columns : List AuthorColumn) (q : ℕ) → IsVectorFrom 0 columns → 1 ≤ (column_of columns q).upto → IsLast (vector_has columns) q (column_of columns q).upto
bound-is_last columns q v some = grind (arith, column_of-IsColumn, column_has-edges, bound-on, column_has-above)

-- authors below id are below q
before-lower : (xs : List AuthorColumn) (id i q : ℕ) → IsPartitionPoint (λ x. nat_lt x.author id ≡ true) (λ x. nat_lt x.author id ≡ false) xs i → id ≤ q → (k : ℕ) (d : AuthorColumn) → 0 ≤ k → k < i → nat_lt (get_or xs k d).author q ≡ true
before-lower xs id i q place f k d z l = let lt : (get_or xs k d).author < id = ltb-true (get_or xs k d).author id (place.0 k d z l) in let up : (get_or xs k d).author < q = omega arith in lt-ltb (get_or xs k d).author q up

-- the author of the column at the place is the next one
pub next_author-place : (xs : List AuthorColumn) (id i : ℕ) (x : AuthorColumn) → IsVectorFrom 0 xs → IsPartitionPoint (λ x. nat_lt x.author id ≡ true) (λ x. nat_lt x.author id ≡ false) xs i → i < length xs → x ≡ get_or xs i x → IsNextAuthor (vector_has xs) id x.author
next_author-place xs id i x v place l at = record {
  above = ltb-false x.author id (rw (← at) at (place.1 i x (omega arith) l));
  author_in = (item-IsColumn 0 xs i x v l at).2;
  between = λ q f lt c. let ne : x.author ≡ q → ⊥ = λ e. omega arith in let ge : q ≤ x.author = omega arith in ap (λ (e : Extent). column_has e c) (column_of-missed 0 xs i q x v (before-lower xs id i q place f) l at (le-ltb x.author q ge) ne) ∙ column_has-empty c;
}

pub no_author-past : (xs : List AuthorColumn) (id i : ℕ) → IsPartitionPoint (λ x. nat_lt x.author id ≡ true) (λ x. nat_lt x.author id ≡ false) xs i → length xs ≤ i → HasNoAuthorFrom (vector_has xs) id
no_author-past xs id i place l q f c = ap (λ (e : Extent). column_has e c) (column_of-past xs i q (before-lower xs id i q place f) l) ∙ column_has-empty c

column_of-far : (low : ℕ) (xs : List AuthorColumn) (q : ℕ) → IsVectorFrom low xs → 64 ≤ q → column_of xs q ≡ empty_column
column_of-far low [] q v far = refl
column_of-far low (x ∷ xs) q v far = let a = v.4 in rw (ne_eqb x.author q (λ e. omega arith)) (column_of-far (x.author + 1) xs q v.3 far)

in_range-cases : (column : Extent) (q c : ℕ) → IsColumn column → q < 64 → column_has column c ≡ true → IsVersion q c
in_range-cases column q c is author there = grind (arith, and_parts, nat_le, leb-true)

-- what a vector has is versions
pub vector_has-versions : (columns : List AuthorColumn) → IsVectorFrom 0 columns → HasVersionsAlone (vector_has columns)
vector_has-versions columns is v there = go (cases_lt v.author 64)
  where
    go : (v.author < 64) ⊎ (64 ≤ v.author) → IsVersion v.author v.counter
    go (inl author) = in_range-cases (column_of columns v.author) v.author v.counter (column_of-IsColumn 0 columns v.author is) author there
    go (inr far) = absurd (false≢true (sym (column_has-empty v.counter) ∙ ap (λ (e : Extent). column_has e v.counter) (sym (column_of-far 0 columns v.author is far)) ∙ there))
