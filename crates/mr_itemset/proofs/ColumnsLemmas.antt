use Rattle.std.proofs.Common.{◌≡◌, ◌<◌, ◌≤◌, ◌+◌, ◌⊎◌, ◌==◌, ◌||◌, ◌&&◌, ℕ, zero, suc, Bool, true, false, nat_lt, nat_le, if◌then◌else◌, List, [], ◌∷◌, length, length-append, refl, ap, sym, ◌∙◌, arith, inl, inr}
use Rattle.mr_itemset.proofs.Names.{AuthorColumn, Extent, Fits, IsColumn, IsRising, IsSame, IsVectorFrom, IsVectorFrom-with_column, MAX_HOLES, both_columns}
use Rattle.mr_itemset.proofs.Names.{cases_Bool, cases_eq, cases_lt, column_has, column_has-empty, column_of, column_of-IsColumn, column_of-with_column}
use Rattle.mr_itemset.proofs.Names.{column_unique, column_upto, edges, empty_column, eq-eqb, le-leb, le-ltb, lt-leb, lt-ltb, nat_tests, ne_eqb, or_comm}
use Rattle.mr_itemset.proofs.Names.{united, vector_has, with_column, with_counter}
use Rattle.mr_forms.specs.Sets.{both}
use Rattle.mr_concise.proofs.InsertLemmas.{with_counter-means}

-- ---- the counters of a set, one after the other

pub upto_low : (has : ℕ → Bool) (n : ℕ) → (column_upto has n).upto ≤ n
upto_low has zero = omega arith
upto_low has (suc n) = grind (arith, upto_low has n, cases_Bool, lt-ltb)

-- the next column has one hole more, unless the counter n was in it
abbrev IsNext : ℕ → Extent → Extent → Type 0
IsNext n column next = (next.upto ≡ suc n) × (((column.upto ≡ n) × (length next.holes ≡ length column.holes)) ⊎ ((column.upto < n) × (length next.holes ≡ length column.holes + 1)))

next_counter : (column : Extent) (n : ℕ) → column.upto ≤ n → IsNext n column (with_counter column (suc n))
next_counter column n low = grind (arith, cases_lt, lt-ltb, le-leb, length-append, lt-leb)

-- the third column reaches as far as the first two, and has no more holes than they
abbrev IsWithin : Extent → Extent → Extent → Type 0
IsWithin a b c = (a.upto ≤ c.upto) × (b.upto ≤ c.upto) × (length c.holes ≤ length a.holes + length b.holes)

within_all : (n : ℕ) (a b c na nb nc : Extent) → IsWithin a b c → IsNext n a na → IsNext n b nb → IsNext n c nc → IsWithin na nb nc
within_all n a b c na nb nc w (x, inl p) (y, q) (z, inl r) = (omega arith, omega arith, go q)
  where
    go : ((b.upto ≡ n) × (length nb.holes ≡ length b.holes)) ⊎ ((b.upto < n) × (length nb.holes ≡ length b.holes + 1)) → length nc.holes ≤ length na.holes + length nb.holes
    go (inl q) = let l = w.2 in let e = p.1 in let f = q.1 in let g = r.1 in omega arith
    go (inr q) = let l = w.2 in let e = p.1 in let f = q.1 in let g = r.1 in omega arith
within_all n a b c na nb nc w (x, inr p) (y, q) (z, inl r) = (omega arith, omega arith, go q)
  where
    go : ((b.upto ≡ n) × (length nb.holes ≡ length b.holes)) ⊎ ((b.upto < n) × (length nb.holes ≡ length b.holes + 1)) → length nc.holes ≤ length na.holes + length nb.holes
    go (inl q) = let l = w.2 in let e = p.1 in let f = q.1 in let g = r.1 in omega arith
    go (inr q) = let l = w.2 in let e = p.1 in let f = q.1 in let g = r.1 in omega arith
within_all n a b c na nb nc w (x, inl p) (y, q) (z, inr r) = let l = w.0 in let e = p.0 in let f = r.0 in absurd (omega arith)
within_all n a b c na nb nc w (x, inr p) (y, q) (z, inr r) = (omega arith, omega arith, go q)
  where
    go : ((b.upto ≡ n) × (length nb.holes ≡ length b.holes)) ⊎ ((b.upto < n) × (length nb.holes ≡ length b.holes + 1)) → length nc.holes ≤ length na.holes + length nb.holes
    go (inl q) = let l = w.2 in let e = p.1 in let f = q.1 in let g = r.1 in omega arith
    go (inr q) = let l = w.2 in let e = p.1 in let f = q.1 in let g = r.1 in omega arith

-- the counter is in the first alone
within_one : (n : ℕ) (a b c na nc : Extent) → b.upto ≤ n → IsWithin a b c → IsNext n a na → IsNext n c nc → IsWithin na b nc
within_one n a b c na nc low w h k = grind arith

within_swap : (a b c : Extent) → IsWithin a b c → IsWithin b a c
within_swap a b c w = (w.1, w.0, let l = w.2 in omega arith)

-- THE HOLES OF BOTH are no more than those of the one and of the other
pub both_within : (f g : ℕ → Bool) (n : ℕ) → IsWithin (column_upto f n) (column_upto g n) (column_upto (λ c. f c || g c) n)
both_within f g zero = (omega arith, omega arith, omega arith)
both_within f g (suc n) =
    go (cases_Bool (f (suc n))) (cases_Bool (g (suc n))) (both_within f g n)
    (next_counter (column_upto f n) n (upto_low f n)) (next_counter (column_upto g n) n (upto_low g n)) (next_counter (column_upto (λ c. f c || g c) n) n (upto_low (λ c. f c || g c) n))
  where
    go : (f (suc n) ≡ true) ⊎ (f (suc n) ≡ false) → (g (suc n) ≡ true) ⊎ (g (suc n) ≡ false) → IsWithin (column_upto f n) (column_upto g n) (column_upto (λ c. f c || g c) n) → IsNext n (column_upto f n) (with_counter (column_upto f n) (suc n)) → IsNext n (column_upto g n) (with_counter (column_upto g n) (suc n)) → IsNext n (column_upto (λ c. f c || g c) n) (with_counter (column_upto (λ c. f c || g c) n) (suc n)) → IsWithin (column_upto f (suc n)) (column_upto g (suc n)) (column_upto (λ c. f c || g c) (suc n))
    go (inl a) (inl b) ih x y z = rw (a, b) (within_all n (column_upto f n) (column_upto g n) (column_upto (λ c. f c || g c) n) (with_counter (column_upto f n) (suc n)) (with_counter (column_upto g n) (suc n)) (with_counter (column_upto (λ c. f c || g c) n) (suc n)) ih x y z)
    go (inl a) (inr b) ih x y z = rw (a, b) (within_one n (column_upto f n) (column_upto g n) (column_upto (λ c. f c || g c) n) (with_counter (column_upto f n) (suc n)) (with_counter (column_upto (λ c. f c || g c) n) (suc n)) (upto_low g n) ih x z)
    go (inr a) (inl b) ih x y z = rw (a, b) (within_swap (with_counter (column_upto g n) (suc n)) (column_upto f n) (with_counter (column_upto (λ c. f c || g c) n) (suc n)) (within_one n (column_upto g n) (column_upto f n) (column_upto (λ c. f c || g c) n) (with_counter (column_upto g n) (suc n)) (with_counter (column_upto (λ c. f c || g c) n) (suc n)) (upto_low f n) (within_swap (column_upto f n) (column_upto g n) (column_upto (λ c. f c || g c) n) ih) y z))
    go (inr a) (inr b) ih x y z = rw (a, b) ih

bool_in : (c n : ℕ) (x : Bool) → (c ≡ suc n → x ≡ true) → ((c == suc n) || ((nat_le 1 c && nat_le c n) && x)) ≡ ((nat_le 1 c && nat_le c (suc n)) && x)
bool_in c n x h = grind (arith, nat_tests)

bool_out : (c n : ℕ) (x : Bool) → (c ≡ suc n → x ≡ false) → ((nat_le 1 c && nat_le c n) && x) ≡ ((nat_le 1 c && nat_le c (suc n)) && x)
bool_out c n x h = grind (arith, nat_tests)

-- THE COLUMN has just these counters
pub upto_means : (has : ℕ → Bool) (n : ℕ) → IsRising 0 (edges (column_upto has n)) × ((c : ℕ) → column_has (column_upto has n) c ≡ ((nat_le 1 c && nat_le c n) && has c))
upto_means has zero = (
  (omega arith, tt),
  λ c. elim (cases_lt c 1) [
    | inl low ↦ rw (lt-leb 1 c low) refl
    | inr from ↦ let past : 0 < c = omega arith in rw (lt-leb c 0 past, le-leb 1 c from) refl
  ],
)
upto_means has (suc n) = go (cases_Bool (has (suc n))) (upto_means has n)
  where
    go : (has (suc n) ≡ true) ⊎ (has (suc n) ≡ false) → IsRising 0 (edges (column_upto has n)) × ((c : ℕ) → column_has (column_upto has n) c ≡ ((nat_le 1 c && nat_le c n) && has c)) → IsRising 0 (edges (column_upto has (suc n))) × ((c : ℕ) → column_has (column_upto has (suc n)) c ≡ ((nat_le 1 c && nat_le c (suc n)) && has c))
    go (inl is_in) ih =
        let more = with_counter-means (column_upto has n) (suc n) ih.0 (omega arith) in
        rw is_in ((more.0, λ c. more.1 c ∙ ap (λ (b : Bool). (c == suc n) || b) (ih.1 c) ∙ bool_in c n (has c) (λ e. ap has e ∙ is_in)))
    go (inr is_out) ih = rw is_out ((ih.0, λ c. ih.1 c ∙ bool_out c n (has c) (λ e. ap has e ∙ is_out)))

-- ---- the column of both

bool_upto : (c upto n : ℕ) (x : Bool) → (c ≡ 0 → x ≡ false) → (upto < c → x ≡ false) → upto ≤ n → x ≡ ((nat_le 1 c && nat_le c n) && x)
bool_upto c upto n x none past low = grind (arith, nat_tests)

-- past its bound a column has nothing
none_past : (column : Extent) (c : ℕ) → column.upto < c → column_has column c ≡ false
none_past column c past = grind (arith, lt-leb, nat_le)

-- a column is that of its counters
upto_itself : (column : Extent) (n : ℕ) → IsRising 0 (edges column) → column.upto ≤ n → column_upto (column_has column) n ≡ column
upto_itself column n rising low =
    let means = upto_means (column_has column) n in
    column_unique (column_upto (column_has column) n) column means.0 rising (λ c. means.1 c ∙ sym (bool_upto c column.upto n (column_has column c) (λ e. rw e refl) (λ past. none_past column c past) low))

higher : (a b : ℕ) → (a ≤ (if nat_lt a b then b else a)) × (b ≤ (if nat_lt a b then b else a)) × ((m : ℕ) → a ≤ m → b ≤ m → (if nat_lt a b then b else a) ≤ m)
higher a b = grind (arith, cases_lt, lt-ltb, le-ltb)

pub both_columns-within : (a b : Extent) → IsRising 0 (edges a) → IsRising 0 (edges b) → IsWithin a b (both_columns a b)
both_columns-within a b ra rb =
    let h = higher a.upto b.upto in
    rw (upto_itself a (if nat_lt a.upto b.upto then b.upto else a.upto) ra h.0, upto_itself b (if nat_lt a.upto b.upto then b.upto else a.upto) rb h.1)
    at (both_within (column_has a) (column_has b) (if nat_lt a.upto b.upto then b.upto else a.upto))

pub both_columns-has : (a b : Extent) (c : ℕ) → column_has (both_columns a b) c ≡ (column_has a c || column_has b c)
both_columns-has a b c =
    let h = higher a.upto b.upto in
    (upto_means (λ k. column_has a k || column_has b k) (if nat_lt a.upto b.upto then b.upto else a.upto)).1 c
    ∙ sym (bool_upto c (if nat_lt a.upto b.upto then b.upto else a.upto) (if nat_lt a.upto b.upto then b.upto else a.upto) (column_has a c || column_has b c) (λ e. rw e refl)
    (λ past. rw (none_past a c (let x = h.0 in omega arith), none_past b c (let y = h.1 in omega arith)) refl) (omega arith))

pub both_columns-IsColumn : (a b : Extent) → IsColumn a → IsColumn b → length a.holes + length b.holes ≤ MAX_HOLES → IsColumn (both_columns a b)
both_columns-IsColumn a b ca cb few = grind (arith, upto_means, upto_low, higher, both_columns-within)

-- ---- the vector of both

none_below : (low : ℕ) (xs : List AuthorColumn) (q : ℕ) → IsVectorFrom low xs → q < low → column_of xs q ≡ empty_column
none_below low [] q v l = refl
none_below low (x ∷ xs) q v l = let ne : x.author ≡ q → ⊥ = λ e. let h = v.0 in omega arith in rw (ne_eqb x.author q ne) (none_below (x.author + 1) xs q v.3 (let h = v.0 in omega arith))

-- the columns of both, and no more holes than the one has and the other
abbrev IsUnited : List AuthorColumn → List AuthorColumn → List AuthorColumn → Type 0
IsUnited a b new = IsVectorFrom 0 new × ((q : ℕ) → ((c : ℕ) → column_has (column_of new q) c ≡ (column_has (column_of a q) c || column_has (column_of b q) c)) × (length (column_of new q).holes ≤ length (column_of a q).holes + length (column_of b q).holes))

or_none : (b : Bool) → b ≡ (b || false)
or_none b = grind arith

-- the columns with one of the added columns
abbrev with_added : List AuthorColumn → AuthorColumn → List AuthorColumn
with_added a x = with_column (record { author = x.author; column = both_columns (column_of a x.author) x.column }) a

at_author : (a : List AuthorColumn) (x : AuthorColumn) (q : ℕ) → x.author ≡ q → column_of (with_added a x) q ≡ both_columns (column_of a q) x.column
at_author a x q e = column_of-with_column (record { author = x.author; column = both_columns (column_of a x.author) x.column }) a q ∙ rw (eq-eqb x.author q e) (ap (λ (k : ℕ). both_columns (column_of a k) x.column) e)

at_other : (a : List AuthorColumn) (x : AuthorColumn) (q : ℕ) → (x.author ≡ q → ⊥) → column_of (with_added a x) q ≡ column_of a q
at_other a x q n = column_of-with_column (record { author = x.author; column = both_columns (column_of a x.author) x.column }) a q ∙ rw (ne_eqb x.author q n) refl

first_of : (x : AuthorColumn) (xs : List AuthorColumn) (q : ℕ) → x.author ≡ q → column_of (x ∷ xs) q ≡ x.column
first_of x xs q e = rw (eq-eqb x.author q e) refl

rest_of : (x : AuthorColumn) (xs : List AuthorColumn) (q : ℕ) → (x.author ≡ q → ⊥) → column_of (x ∷ xs) q ≡ column_of xs q
rest_of x xs q n = rw (ne_eqb x.author q n) refl

holes_at : (low : ℕ) (a : List AuthorColumn) (x : AuthorColumn) (xs : List AuthorColumn) (q : ℕ) → IsVectorFrom 0 a → IsVectorFrom low (x ∷ xs) → x.author ≡ q → length (column_of (with_added a x) q).holes ≤ length (column_of a q).holes + length (column_of (x ∷ xs) q).holes
holes_at low a x xs q va vb e =
    let f = ap (λ (c : Extent). length c.holes) (first_of x xs q e) in
    let g = ap (λ (c : Extent). length c.holes) (at_author a x q e) in
    let w : length (both_columns (column_of a q) x.column).holes ≤ length (column_of a q).holes + length x.column.holes = (both_columns-within (column_of a q) x.column (column_of-IsColumn 0 a q va).apart vb.2.apart).2 in
    omega arith

none_left : (low : ℕ) (x : AuthorColumn) (xs : List AuthorColumn) (q : ℕ) → IsVectorFrom low (x ∷ xs) → x.author ≡ q → column_of xs q ≡ empty_column
none_left low x xs q vb e = none_below (x.author + 1) xs q vb.3 (omega arith)

added_ok : (low : ℕ) (a : List AuthorColumn) (x : AuthorColumn) (xs : List AuthorColumn) → IsVectorFrom 0 a → IsVectorFrom low (x ∷ xs) → Fits a (x ∷ xs) → IsVectorFrom 0 (with_added a x)
added_ok low a x xs va vb fits = grind (arith, column_of-IsColumn, both_columns-within, first_of, IsVectorFrom-with_column, both_columns-IsColumn)

added_fits : (low : ℕ) (a : List AuthorColumn) (x : AuthorColumn) (xs : List AuthorColumn) → IsVectorFrom 0 a → IsVectorFrom low (x ∷ xs) → Fits a (x ∷ xs) → Fits (with_added a x) xs
added_fits low a x xs va vb fits q = go (cases_eq x.author q)
  where
    go : (x.author ≡ q) ⊎ (x.author ≡ q → ⊥) → length (column_of (with_added a x) q).holes + length (column_of xs q).holes ≤ MAX_HOLES
    go (inl e) = let h = holes_at low a x xs q va vb e in let f = fits q in let n = ap (λ (c : Extent). length c.holes) (none_left low x xs q vb e) in omega arith
    go (inr n) = rw (at_other a x q n) (let f = fits q in let e = ap (λ (c : Extent). length c.holes) (rest_of x xs q n) in omega arith)

united-step : (low : ℕ) (a : List AuthorColumn) (x : AuthorColumn) (xs new : List AuthorColumn) → IsVectorFrom 0 a → IsVectorFrom low (x ∷ xs) → IsUnited (with_added a x) xs new → IsUnited a (x ∷ xs) new
united-step low a x xs new va vb whole = (whole.0, λ q. at q (cases_eq x.author q))
  where
    at : (q : ℕ) → (x.author ≡ q) ⊎ (x.author ≡ q → ⊥) → ((c : ℕ) → column_has (column_of new q) c ≡ (column_has (column_of a q) c || column_has (column_of (x ∷ xs) q) c)) × (length (column_of new q).holes ≤ length (column_of a q).holes + length (column_of (x ∷ xs) q).holes)
    at q (inl e) = (
      λ c.
          (whole.1 q).0 c
          ∙ ap (λ (y : Extent). column_has (column_of (with_added a x) q) c || column_has y c) (none_left low x xs q vb e)
          ∙ ap (λ (z : Bool). column_has (column_of (with_added a x) q) c || z) (column_has-empty c)
          ∙ sym (or_none (column_has (column_of (with_added a x) q) c))
          ∙ ap (λ (y : Extent). column_has y c) (at_author a x q e)
          ∙ both_columns-has (column_of a q) x.column c
          ∙ ap (λ (y : Extent). column_has (column_of a q) c || column_has y c) (sym (first_of x xs q e)),
      let h = holes_at low a x xs q va vb e in let w = (whole.1 q).1 in let n = ap (λ (c : Extent). length c.holes) (none_left low x xs q vb e) in omega arith,
    )
    at q (inr n) = (
      λ c.
          (whole.1 q).0 c
          ∙ ap (λ (y : Extent). column_has y c || column_has (column_of xs q) c) (at_other a x q n)
          ∙ ap (λ (y : Extent). column_has (column_of a q) c || column_has y c) (sym (rest_of x xs q n)),
      let w = (whole.1 q).1 in let f = ap (λ (c : Extent). length c.holes) (at_other a x q n) in let g = ap (λ (c : Extent). length c.holes) (rest_of x xs q n) in omega arith,
    )

united-is : (low : ℕ) (a b : List AuthorColumn) → IsVectorFrom 0 a → IsVectorFrom low b → Fits a b → IsUnited a b (united a b)
united-is low a [] va vb fits = (va, λ q. (λ c. or_none (column_has (column_of a q) c) ∙ ap (λ (z : Bool). column_has (column_of a q) c || z) (sym (column_has-empty c)), omega arith))
united-is low a (x ∷ xs) va vb fits = united-step low a x xs (united (with_added a x) xs) va vb (united-is (x.author + 1) (with_added a x) xs (added_ok low a x xs va vb fits) vb.3 (added_fits low a x xs va vb fits))

-- THE VECTOR OF BOTH
pub united-vector : (a b : List AuthorColumn) → IsVectorFrom 0 a → IsVectorFrom 0 b → Fits a b → IsVectorFrom 0 (united a b)
united-vector a b va vb fits = (united-is 0 a b va vb fits).0

pub united-has : (a b : List AuthorColumn) → IsVectorFrom 0 a → IsVectorFrom 0 b → Fits a b → IsSame (vector_has (united a b)) (both (vector_has b) (vector_has a))
united-has a b va vb fits v = ((united-is 0 a b va vb fits).1 v.author).0 v.counter ∙ or_comm (column_has (column_of a v.author) v.counter) (column_has (column_of b v.author) v.counter)

pub united-holes : (a b : List AuthorColumn) (q : ℕ) → IsVectorFrom 0 a → IsVectorFrom 0 b → Fits a b → length (column_of (united a b) q).holes ≤ length (column_of a q).holes + length (column_of b q).holes
united-holes a b q va vb fits = ((united-is 0 a b va vb fits).1 q).1
