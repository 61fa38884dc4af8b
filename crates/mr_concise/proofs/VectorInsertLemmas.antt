use Rattle.std.proofs.Common.{inl, inr, ◌⊎◌, ◌≡◌, ◌<◌, ◌≤◌, ◌==◌, ◌&&◌, ◌||◌, ℕ, true, false, cond, refl, ap, sym, ◌∙◌, arith, List, length, get_or, set, nat_lt, Result}
use Rattle.mr_concise.proofs.Names.{AuthorColumn, Extent, FormFault, HasTooManyHoles, IsErrOf, IsVectorFrom, MAX_COUNTER, Name, OnErr, OnOk, TooManyHoles}
use Rattle.mr_concise.proofs.Names.{cases_eq, cases_lt, column_has, column_of, empty_column, eq-eqb, le-leb, le-ltb, lt-leb, lt-ltb, name_eq, ne_eqb}
use Rattle.mr_concise.proofs.Names.{vector_has, with_column, with_counter, with_one, with_version}
use Rattle.mr_concise.proofs.NameLemmas.{name_eq_parts}
use Rattle.mr_concise.proofs.ColumnLemmas.{column_unique}
use Rattle.mr_concise.proofs.VectorLemmas.{column_of-with_column, column_of-at, set-with_column, IsVectorFrom-with_column}
use Rattle.mr_concise.proofs.UnionLemmas.{column_of-IsColumn}
use Rattle.mr_concise.proofs.InsertLemmas.{with_counter-means, IsColumn-with_counter}

pub eq-sym : (a b : ℕ) → (a == b) ≡ (b == a)
eq-sym a b = grind (arith, cases_eq, eq-eqb, ne_eqb)

-- the set with one version more
pub inserted-means : (old : List AuthorColumn) (version v : Name) → IsVectorFrom 0 old → 1 ≤ version.counter → vector_has (with_column (with_one old version.author version.counter) old) v ≡ with_version (vector_has old) version v
inserted-means old version v w from =
    ap (λ (c : Extent). column_has c v.counter) (column_of-with_column (with_one old version.author version.counter) old v.author)
    ∙ go (cases_eq version.author v.author)
    ∙ ap (λ b. b || vector_has old v) (sym (name_eq_parts version v))
  where
    go : (version.author ≡ v.author) ⊎ (version.author ≡ v.author → ⊥) → column_has (cond (version.author == v.author) (with_counter (column_of old version.author) version.counter) (column_of old v.author)) v.counter ≡ (((version.author == v.author) && (version.counter == v.counter)) || vector_has old v)
    go (inl e) =
        let means = (with_counter-means (column_of old version.author) version.counter ((column_of-IsColumn 0 old version.author w).apart) from).1 v.counter in
        rw (eq-eqb version.author v.author e, eq-sym version.counter v.counter, ← e) means
    go (inr n) = rw (ne_eqb version.author v.author n) refl

same-author : (version : Name) (c : ℕ) → (c == version.counter) ≡ name_eq version (record { author = version.author; counter = c })
same-author version c = eq-sym c version.counter ∙ sym (name_eq_parts version (record { author = version.author; counter = c }) ∙ rw (eq-eqb version.author version.author refl) refl)

other-author : (version : Name) (q c : ℕ) → (version.author ≡ q → ⊥) → name_eq version (record { author = q; counter = c }) ≡ false
other-author version q c n = name_eq_parts version (record { author = q; counter = c }) ∙ rw (ne_eqb version.author q n) refl

with_counter-range : (column : Extent) (k : ℕ) → column.upto ≤ MAX_COUNTER → k ≤ MAX_COUNTER → (with_counter column k).upto ≤ MAX_COUNTER
with_counter-range column k h to = grind (arith, cases_lt, lt-ltb, le-ltb)

-- too many holes exactly where the author's column has too many
pub too_many-from_one : (old : List AuthorColumn) (version : Name) → version.author < 64 → IsVectorFrom 0 old → 1 ≤ version.counter → version.counter ≤ MAX_COUNTER → 4096 < length (with_one old version.author version.counter).column.holes → HasTooManyHoles (with_version (vector_has old) version)
too_many-from_one old version author_in w from to many =
    let column = column_of-IsColumn 0 old version.author w in
    let both = with_counter-means (column_of old version.author) version.counter column.apart from in
    record {
      author = version.author;
      author_in = author_in;
      column = with_counter (column_of old version.author) version.counter;
      apart = both.0;
      in_range = with_counter-range (column_of old version.author) version.counter column.in_range to;
      means = λ c. both.1 c ∙ ap (λ b. b || column_has (column_of old version.author) c) (same-author version c);
      many = many;
    }

pub one-from_too_many : (old : List AuthorColumn) (version : Name) → IsVectorFrom 0 old → 1 ≤ version.counter → HasTooManyHoles (with_version (vector_has old) version) → 4096 < length (with_one old version.author version.counter).column.holes
one-from_too_many old version w from many = go (cases_eq version.author many.author)
  where
    go : (version.author ≡ many.author) ⊎ (version.author ≡ many.author → ⊥) → 4096 < length (with_one old version.author version.counter).column.holes
    go (inl e) =
        let column = column_of-IsColumn 0 old version.author w in
        let both = with_counter-means (column_of old version.author) version.counter column.apart from in
        let is : many.column ≡ with_counter (column_of old version.author) version.counter = column_unique many.column (with_counter (column_of old version.author) version.counter) many.apart both.0 (λ c. rw (← e) at (many.means c) ∙ ap (λ b. b || column_has (column_of old version.author) c) (sym (same-author version c)) ∙ sym (both.1 c)) in
        let l = many.many in
        rw (← is) l
    go (inr n) =
        let column = column_of-IsColumn 0 old many.author w in
        let is : many.column ≡ column_of old many.author = column_unique many.column (column_of old many.author) many.apart column.apart (λ c. many.means c ∙ ap (λ b. b || column_has (column_of old many.author) c) (other-author version many.author c n)) in
        let l : 4096 < length (column_of old many.author).holes = rw is at many.many in
        let f = column.few in
        absurd (omega arith)

-- a column put in place of the author's
pub with_one-set : (xs : List AuthorColumn) (i a k : ℕ) (x : AuthorColumn) (new : Extent) → ((j : ℕ) (d : AuthorColumn) → 0 ≤ j → j < i → nat_lt (get_or xs j d).author a ≡ true) → i < length xs → x ≡ get_or xs i x → x.author ≡ a → new ≡ with_counter x.column k → set xs i (record { author = x.author; column = new }) ≡ with_column (with_one xs a k) xs
with_one-set xs i a k x new before l at e is = grind (arith, column_of-at, set-with_column)

pub few-empty : (column : Extent) (k : ℕ) → column ≡ empty_column → 1 ≤ k → 4096 < length (with_counter column k).holes → ⊥
few-empty column k e from many = grind (arith, lt-ltb, cases_lt, lt-leb, le-leb)

some-upto : (column : Extent) (k : ℕ) → 1 ≤ k → 1 ≤ (with_counter column k).upto
some-upto column k from = elim (cases_lt column.upto k) [
  | inl l ↦ rw (lt-ltb column.upto k l) from
  | inr g ↦ rw (le-ltb column.upto k g) (omega arith)
]

-- the columns after an insert are a vector, whatever its result
pub inserted-vector : (r : Result (Unit {0}) FormFault) (old new : List AuthorColumn) (author counter : ℕ) → IsVectorFrom 0 old → author < 64 → 1 ≤ counter → counter ≤ MAX_COUNTER → OnOk r (new ≡ with_column (with_one old author counter) old) → OnErr r (new ≡ old) → (4096 < length (with_one old author counter).column.holes → IsErrOf r TooManyHoles) → IsVectorFrom 0 new
inserted-vector r old new author counter v low from to ok err many = grind (arith, cases_lt, IsVectorFrom-with_column, some-upto, IsColumn-with_counter, column_of-IsColumn)
