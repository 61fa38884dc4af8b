-- What a run above all others makes of a column, and what a column more makes of a vector.
use Rattle.std.proofs.Common.{◌≡◌, ◌≤◌, ◌<◌, ◌+◌, ◌-◌, ◌==◌, ◌&&◌, ◌||◌, not, nat_le, if◌then◌else◌, ℕ, zero, suc, Bool, true, false, List, [], ◌∷◌, ◌++◌, append_assoc, append-nil, length-append, take, drop, refl, sym, ap, subst, ◌∙◌, ◌⊎◌, inl, inr, arith}
use Rattle.mr_session.proofs.Names.{AllByRecursion, AreBelow, AuthorColumn, Extent, HasJust, HasTooManyHoles, Hole, IsColumn, IsSame}
use Rattle.std.specs.List.Sorted.{IsStrictlySortedBy}
use Rattle.mr_session.proofs.Names.{IsVectorFrom, IsVectorOf, IsVersion, Less, Name, bound-on, cases_eq, cases_lt, column_has, column_has-empty, column_of}
use Rattle.mr_session.proofs.Names.{edges, eq-eqb, few-vector, gap, hole_edges, hole_has, is_before, is_listed, is_lt, le-leb, list_any, list_any-append}
use Rattle.mr_session.proofs.Names.{lt-leb, lt-ltb, name_cmp, name_eq, name_eq_parts, name_eq_self, nat_tests, ne_eqb, or_right, same_names, take-append-drop}
use Rattle.mr_session.proofs.Names.{vector_has, with_counter, with_last}
use Rattle.mr_concise.specs.Edges.{IsRising}
use Rattle.mr_concise.specs.inner.Vector.{in_column}
use Rattle.mr_concise.proofs.ColumnLemmas.{column_has-edges}
use Rattle.mr_concise.proofs.InsertLemmas.{with_counter-means}
use Rattle.mr_concise.proofs.LastLemmas.{vector_has-versions, column_has-above}
use Rattle.mr_session.proofs.HeldLemmas.{listed_more}

-- ---- a run above a column

rising_up : (low : ℕ) (ts : List ℕ) (t s : ℕ) → IsRising low (ts ++ t ∷ []) → t ≤ s → IsRising low (ts ++ s ∷ [])
rising_up low [] t s rising le = let r = rising.0 in (omega arith, tt)
rising_up low (x ∷ ts) t s rising le = (rising.0, rising_up x ts t s rising.1 le)

-- the bound of a column that has some is covered
pub bound_has : (upto : ℕ) (holes : List Hole) → IsRising 0 (edges (record { upto = upto; holes = holes })) → 1 ≤ upto → column_has (record { upto = upto; holes = holes }) upto ≡ true
bound_has upto holes rising some = column_has-edges (record { upto = upto; holes = holes }) upto rising some ∙ bound-on 0 upto holes rising

not_any : (b c : Bool) → (b && not c) ≡ true → c ≡ false
not_any b c h = grind arith

-- with a higher bound, a column has the counters between as well
higher : (low upto : ℕ) (holes : List Hole) (k : ℕ) → IsRising 0 (edges (record { upto = low; holes = holes })) → 1 ≤ low → low ≤ upto
    → column_has (record { upto = upto; holes = holes }) k ≡ ((nat_le low k && nat_le k upto) || column_has (record { upto = low; holes = holes }) k)
higher low upto holes k rising some le =
    elim (cases_lt k low) [
      | inl below ↦ rw (lt-leb low k below, le-leb k upto (omega arith), le-leb k low (omega arith)) refl
      | inr from ↦ elim (cases_lt upto k) [
        | inl above ↦ rw (lt-leb k upto above, lt-leb k low (omega arith)) (nothing (nat_le 1 k) (nat_le low k) (list_any (λ hole. hole_has hole k) holes))
        | inr within ↦
            let here : IsRising 0 (edges (record { upto = k; holes = holes })) = rising_up 0 (hole_edges holes) (low + 1) (k + 1) rising (omega arith) in
            let in_none : list_any (λ hole. hole_has hole k) holes ≡ false = not_any (nat_le 1 k && nat_le k k) (list_any (λ hole. hole_has hole k) holes) (bound_has k holes here (omega arith)) in
            rw (in_none, le-leb low k from, le-leb k upto within, le-leb 1 k (omega arith)) refl
      ]
    ]
  where
    nothing : (a b c : Bool) → ((a && false) && not c) ≡ ((b && false) || ((a && false) && not c))
    nothing true true c = refl
    nothing true false c = refl
    nothing false true c = refl
    nothing false false c = refl

-- the column with a run above its bound
abbrev pub with_run_above : Extent → (first last : ℕ) → Extent
with_run_above column first last = record { upto = last; holes = column.holes ++ gap (column.upto + 1) (first - 1) }

first_or : (f l k : ℕ) (rest : Bool) → f ≤ l → ((nat_le f k && nat_le k l) || ((k == f) || rest)) ≡ ((nat_le f k && nat_le k l) || rest)
first_or f l k rest le = grind (arith, cases_eq, le-leb, ne_eqb)

pub above_apart : (column : Extent) (first last : ℕ) → IsRising 0 (edges column) → column.upto < first → first ≤ last → IsRising 0 (edges (with_run_above column first last))
above_apart column first last rising above le =
    rising_up 0 (hole_edges (column.holes ++ gap (column.upto + 1) (first - 1))) (first + 1) (last + 1) (rw (lt-ltb column.upto first above) at (with_counter-means column first rising (omega arith)).0) (omega arith)

pub above_has : (column : Extent) (first last : ℕ) → IsRising 0 (edges column) → column.upto < first → first ≤ last
    → (k : ℕ) → column_has (with_run_above column first last) k ≡ ((nat_le first k && nat_le k last) || column_has column k)
above_has column first last rising above le k =
    let one = rw (lt-ltb column.upto first above) at (with_counter-means column first rising (omega arith)) in
    higher first last (column.holes ++ gap (column.upto + 1) (first - 1)) k one.0 (omega arith) le
    ∙ (ap (λ (b : Bool). (nat_le first k && nat_le k last) || b) (one.1 k)
    ∙ first_or first last k (column_has column k) le)

-- ---- a column behind the others

pub below_higher : (a b : ℕ) (columns : List AuthorColumn) → a ≤ b → AreBelow a columns → AreBelow b columns
below_higher a b [] le below = tt
below_higher a b (x ∷ xs) le below = let l = below.0 in (omega arith, below_higher a b xs le below.1)

pub below_more : (author : ℕ) (x : AuthorColumn) (columns : List AuthorColumn) → x.author < author → AreBelow author columns → AreBelow author (columns ++ x ∷ [])
below_more author x [] less below = (less, tt)
below_more author x (y ∷ ys) less below = (below.0, below_more author x ys less below.1)

pub vector_more : (low : ℕ) (x : AuthorColumn) (columns : List AuthorColumn) → IsVectorFrom low columns → AreBelow x.author columns → low ≤ x.author → 1 ≤ x.column.upto → IsColumn x.column → x.author < 64 → IsVectorFrom low (columns ++ x ∷ [])
vector_more low x [] is below from some column author = (from, some, column, tt, author)
vector_more low x (y ∷ ys) is below from some column author =
    let l = below.0 in (is.0, is.1, is.2, vector_more (y.author + 1) x ys is.3 below.1 (omega arith) some column author, is.4)

column_of-below : (columns : List AuthorColumn) (author : ℕ) → AreBelow author columns → column_of columns author ≡ record { upto = 0; holes = [] }
column_of-below [] author below = refl
column_of-below (y ∷ ys) author below = let l = below.0 in rw (ne_eqb y.author author (λ e. omega arith)) (column_of-below ys author below.1)

column_of-more : (x : AuthorColumn) (columns : List AuthorColumn) (q : ℕ) (apart : x.author ≡ q → ⊥) → column_of (columns ++ x ∷ []) q ≡ column_of columns q
column_of-more x [] q apart = rw (ne_eqb x.author q apart) refl
column_of-more x (y ∷ ys) q apart = elim (y.author == q) as (λ b. (if b then y.column else column_of (ys ++ x ∷ []) q) ≡ (if b then y.column else column_of ys q)) [ true ↦ refl | false ↦ column_of-more x ys q apart ]

column_of-last : (x : AuthorColumn) (columns : List AuthorColumn) → AreBelow x.author columns → column_of (columns ++ x ∷ []) x.author ≡ x.column
column_of-last x [] below = rw (eq-eqb x.author x.author refl) refl
column_of-last x (y ∷ ys) below = let l = below.0 in rw (ne_eqb y.author x.author (λ e. omega arith)) (column_of-last x ys below.1)

-- what the columns have with one more behind them
pub has_more_column : (x : AuthorColumn) (columns : List AuthorColumn) → AreBelow x.author columns → (w : Name) → vector_has (columns ++ x ∷ []) w ≡ (vector_has columns w || in_column x.author x.column w)
has_more_column x columns below w = grind (arith, cases_eq, column_of-last, column_of-below, eq-eqb, column_of-more, ne_eqb, column_has-empty)

-- an empty column adds nothing
pub last_empty : (columns : List AuthorColumn) (author upto : ℕ) (holes : List Hole) → upto ≤ 0 → IsSame (vector_has columns) (with_last columns author (record { upto = upto; holes = holes }))
last_empty columns author upto holes none w = adds_none (vector_has columns w) (w.author == author) (column_has (record { upto = upto; holes = holes }) w.counter) (empty_has w.counter)
  where
    empty_has : (k : ℕ) → column_has (record { upto = upto; holes = holes }) k ≡ false
    empty_has zero = refl
    empty_has (suc k) = column_has-above (record { upto = upto; holes = holes }) (suc k) (omega (arith, none))

    adds_none : (a b c : Bool) → c ≡ false → a ≡ (a || (b && c))
    adds_none true b c h = refl
    adds_none false true c h = sym h
    adds_none false false c h = refl

spread : (v a r c : Bool) → (v || (a && (r || c))) ≡ ((a && r) || (v || (a && c)))
spread v a r c = grind arith

-- the last column with a run above it
pub last_more : (columns : List AuthorColumn) (author first last : ℕ) (column : Extent) → IsRising 0 (edges column) → column.upto < first → first ≤ last
    → (w : Name) → with_last columns author (with_run_above column first last) w ≡ (((w.author == author) && (nat_le first w.counter && nat_le w.counter last)) || with_last columns author column w)
last_more columns author first last column rising above le w = grind (arith, above_has, spread, nat_le)

-- ---- a list in order fits one by one where it fits as a whole

abbrev pub AreInOrder : List Name → Type 0
AreInOrder vs = IsStrictlySortedBy name_cmp vs

order_head : (v : Name) (vs : List Name) → AreInOrder (v ∷ vs) → AllByRecursion (λ w. name_cmp v w ≡ Less) vs
unfolding IsStrictlySortedBy
order_head v vs h = h.0

order_tail : (v : Name) (vs : List Name) → AreInOrder (v ∷ vs) → AreInOrder vs
unfolding IsStrictlySortedBy
order_tail v vs h = h.1

all_back : (P : Name → Type 0) (front back : List Name) → AllByRecursion P (front ++ back) → AllByRecursion P back
all_back P [] back h = h
all_back P (x ∷ front) back h = all_back P front back h.1

-- what is listed in front is before what follows
pub listed_before : (front : List Name) (w : Name) (back : List Name) → AreInOrder (front ++ w ∷ back) → (u : Name) → is_listed front u ≡ true → is_before u w ≡ true
listed_before [] w back order u listed = absurd (cc)
listed_before (x ∷ front) w back order u listed =
    let less : name_cmp x w ≡ Less = (all_back (λ (v : Name). name_cmp x v ≡ Less) front (w ∷ back) (order_head x (front ++ w ∷ back) order)).0 in
    elim (cases_eq_name (name_eq u x)) [
      | inl same ↦ ap is_lt (ap (λ (v : Name). name_cmp v w) (same_name u x same) ∙ less)
      | inr apart ↦ listed_before front w back (order_tail x (front ++ w ∷ back) order) u (rw apart at listed)
    ]
  where
    cases_eq_name : (b : Bool) → (b ≡ true) ⊎ (b ≡ false)
    cases_eq_name true = inl refl
    cases_eq_name false = inr refl

    same_name : (a b : Name) → name_eq a b ≡ true → a ≡ b
    same_name = same_names

same_author : (u w : Name) → is_before u w ≡ true → u.author ≡ w.author → u.counter < w.counter
same_author u w before same = grind (arith, nat_tests)

names_differ : (a : Bool) (k c : ℕ) → (a && (k == c)) ≡ (a && (c == k))
names_differ a k c = grind (arith, cases_eq, eq-eqb, ne_eqb)

-- too many holes stay too many where a version comes behind all
many_more : (front : List Name) (w : Name) → ((u : Name) → is_listed front u ≡ true → is_before u w ≡ true) → IsVersion w.author w.counter → HasTooManyHoles (is_listed front) → HasTooManyHoles (is_listed (front ++ w ∷ []))
many_more front w above is m =
    elim (cases_eq w.author m.author) [
      | inl same ↦
          elim (cases_lt m.column.upto w.counter) [
            | inl lower ↦
                let one = with_counter-means m.column w.counter m.apart is.counter_from in
                record {
                  author = m.author;
                  author_in = m.author_in;
                  column = with_counter m.column w.counter;
                  apart = one.0;
                  in_range = rw (lt-ltb m.column.upto w.counter lower) is.counter_to;
                  means = λ c.
                      let v : Name = record { author = m.author; counter = c } in
                      one.1 c
                      ∙ (λ i. named_at c same i || m.means c i)
                      ∙ sym (listed_more front w v);
                  many = rw (lt-ltb m.column.upto w.counter lower) (let n = length-append m.column.holes (gap (m.column.upto + 1) (w.counter - 1)) in let many = m.many in omega arith);
                }
            | inr from ↦
                let there : is_listed front (record { author = m.author; counter = m.column.upto }) ≡ true = sym (m.means m.column.upto) ∙ bound_has m.column.upto m.column.holes m.apart (let low = is.counter_from in omega arith) in
                let less = same_author (record { author = m.author; counter = m.column.upto }) w (above (record { author = m.author; counter = m.column.upto }) there) (sym same) in
                absurd (omega (arith, less, from))
          ]
      | inr apart ↦ record {
        author = m.author;
        author_in = m.author_in;
        column = m.column;
        apart = m.apart;
        in_range = m.in_range;
        means = λ c.
            let v : Name = record { author = m.author; counter = c } in
            m.means c ∙ ap (λ (b : Bool). b || is_listed front v) (sym (other v apart)) ∙ sym (listed_more front w v);
        many = m.many;
      }
    ]
  where
    named_at : (c : ℕ) → w.author ≡ m.author → (c == w.counter) ≡ name_eq w (record { author = m.author; counter = c })
    named_at c same =
        let v : Name = record { author = m.author; counter = c } in
        sym (name_eq_parts w v ∙ (rw (eq-eqb w.author m.author same) (names_differ true w.counter c)))

    other : (v : Name) → (w.author ≡ v.author → ⊥) → name_eq w v ≡ false
    other v apart = name_eq_parts w v ∙ rw (ne_eqb w.author v.author apart) refl

many_longer : (front back : List Name) → AreInOrder (front ++ back) → ((u : Name) → is_listed (front ++ back) u ≡ true → IsVersion u.author u.counter) → HasTooManyHoles (is_listed front) → HasTooManyHoles (is_listed (front ++ back))
many_longer front [] order are m = subst (λ (l : List Name). HasTooManyHoles (is_listed l)) (sym (append-nil front)) m
many_longer front (w ∷ back) order are m =
    let assoc : (front ++ w ∷ []) ++ back ≡ front ++ w ∷ back = append_assoc front (w ∷ []) back in
    let there : is_listed (front ++ w ∷ back) w ≡ true = list_any-append (name_eq w) front (w ∷ back) ∙ or_right (is_listed front w) (name_eq w w || is_listed back w) (rw (name_eq_self w) refl) in
    let one = many_more front w (listed_before front w back order) (are w there) m in
    subst (λ (l : List Name). HasTooManyHoles (is_listed l)) assoc
    (many_longer (front ++ w ∷ []) back (subst AreInOrder (sym assoc) order) (subst (λ (l : List Name). (u : Name) → is_listed l u ≡ true → IsVersion u.author u.counter) (sym assoc) are) one)

pub fits_whole : (versions : List Name) (vector : List AuthorColumn) → AreInOrder versions → IsVectorOf (is_listed versions) vector → HasJust versions vector
fits_whole versions vector order is = record {
  vector_of = is;
  one_by_one = λ n many.
      let parts : take n versions ++ drop n versions ≡ versions = take-append-drop n versions in
      let whole = many_longer (take n versions) (drop n versions) (subst AreInOrder (sym parts) order) (subst (λ (l : List Name). (u : Name) → is_listed l u ≡ true → IsVersion u.author u.counter) (sym parts) (λ u there. vector_has-versions vector is.columns_ok u (is.has u ∙ there))) many in
      few-vector vector (is_listed versions) is.columns_ok is.has (subst (λ (l : List Name). HasTooManyHoles (is_listed l)) parts whole);
}
