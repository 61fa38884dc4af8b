-- Why a union that gives up has too many holes. Each set of counters that ends has a column (`column-exists`); the holes
-- that were found so far are edges at which it turns too, so it has at least as many (`found-fewer`).
use Rattle.std.proofs.Common.{not, inl, inr, ◌⊎◌, ◌≡◌, ◌<◌, ◌≤◌, ◌+◌, ◌||◌, ◌&&◌, ◌==◌, ℕ, Bool, true, false, nat_lt, nat_le, refl, ap, sym, subst, ◌∙◌, arith, List, [], ◌∷◌, ◌++◌, length, length-append, zero, suc, add-one, get_or, Option, Some}
use Rattle.mr_concise.proofs.Names.{AuthorColumn, Extent, HasManyHoles, HasTooManyHoles, Hole, IfNone, IsColumnOf, IsRising, IsVectorFrom, MAX_COUNTER}
use Rattle.mr_concise.proofs.Names.{MAX_HOLES, both, cases_Bool, cases_eq, cases_lt, column_has, column_of, edges, empty_column, eq-eqb, hole_edges}
use Rattle.mr_concise.proofs.Names.{if◌then◌else◌, is_on, le-leb, le-ltb, lt-leb, lt-ltb, ne_eqb, of_author, true≢false, vector_has, with_counter}
use Rattle.mr_concise.proofs.EdgeLemmas.{is_on-before, edges_fewer}
use Rattle.mr_concise.proofs.ColumnLemmas.{column_has-edges}
use Rattle.mr_concise.proofs.InsertLemmas.{with_counter-means}
use Rattle.mr_concise.proofs.UnionLemmas.{column_has-empty, IsColumn-empty, column_of-item, item-IsColumn}
use Rattle.mr_concise.proofs.LastLemmas.{column_has-above}
use Rattle.mr_concise.proofs.SweepLemmas.{too_many-from_author}
use Rattle.mr_concise.proofs.MergeLemmas.{has_one, Merged, Merged-push, IsStep}

-- the set up to a counter
abbrev pub up_to : (ℕ → Bool) → ℕ → ℕ → Bool
up_to has n c = has c && nat_le c n

-- a column of the set
pub record HasColumn (has : ℕ → Bool) : Type 0 where
  pub column : Extent
  pub is : IsColumnOf has column

same-columns : (s t : ℕ → Bool) → ((c : ℕ) → s c ≡ t c) → HasColumn s → HasColumn t
same-columns s t h w = record { column = w.column; is = record { apart = w.is.apart; in_range = w.is.in_range; means = λ c. w.is.means c ∙ h c } }

up_to-none : (has : ℕ → Bool) (c : ℕ) → has 0 ≡ false → (c < 1) ⊎ (1 ≤ c) → false ≡ up_to has 0 c
up_to-none has c out h = grind (arith, lt-leb)

-- with a counter that the set has
up_to-in : (has : ℕ → Bool) (n c : ℕ) → has (n + 1) ≡ true → (c ≡ n + 1) ⊎ (c ≡ n + 1 → ⊥) → ((c == n + 1) || up_to has n c) ≡ up_to has (n + 1) c
up_to-in has n c there h = grind (arith, eq-eqb, le-leb, ne_eqb, cases_lt, lt-leb)

-- with one that it has not
up_to-out : (has : ℕ → Bool) (n c : ℕ) → has (n + 1) ≡ false → (c ≡ n + 1) ⊎ (c ≡ n + 1 → ⊥) → up_to has n c ≡ up_to has (n + 1) c
up_to-out has n c out h = grind (arith, cases_lt, lt-leb, le-leb)

with_counter-in_range : (column : Extent) (k : ℕ) → column.upto ≤ MAX_COUNTER → k ≤ MAX_COUNTER → (with_counter column k).upto ≤ MAX_COUNTER
with_counter-in_range column k old new = grind (arith, cases_lt, lt-ltb, le-ltb)

-- with one counter more
columns-more : (has : ℕ → Bool) (n : ℕ) → HasColumn (up_to has n) → n + 1 ≤ MAX_COUNTER → (has (n + 1) ≡ true) ⊎ (has (n + 1) ≡ false) → HasColumn (up_to has (n + 1))
columns-more has n below top (inl there) =
    let more = with_counter-means below.column (n + 1) below.is.apart (omega arith) in
    record {
      column = with_counter below.column (n + 1);
      is = record {
        apart = more.0;
        in_range = with_counter-in_range below.column (n + 1) below.is.in_range top;
        means = λ c. more.1 c ∙ ap (λ b. (c == n + 1) || b) (below.is.means c) ∙ up_to-in has n c there (cases_eq c (n + 1));
      };
    }
columns-more has n below top (inr none) = same-columns (up_to has n) (up_to has (n + 1)) (λ c. up_to-out has n c none (cases_eq c (n + 1))) below

columns-up_to : (has : ℕ → Bool) (n : ℕ) → has 0 ≡ false → n ≤ MAX_COUNTER → HasColumn (up_to has n)
columns-up_to has zero out top = record { column = empty_column; is = record { apart = IsColumn-empty.apart; in_range = IsColumn-empty.in_range; means = λ c. column_has-empty c ∙ up_to-none has c out (cases_lt c 1) } }
columns-up_to has (suc n) out top = subst (λ (m : ℕ). HasColumn (up_to has m)) (add-one n) (columns-more has n (columns-up_to has n out (omega arith)) (omega arith) (cases_Bool (has (n + 1))))

-- each set of counters that ends has a column
pub column-exists : (has : ℕ → Bool) (n : ℕ) → has 0 ≡ false → n ≤ MAX_COUNTER → ((c : ℕ) → n < c → has c ≡ false) → HasColumn has
column-exists has n out top past = same-columns (up_to has n) has (λ c. go c (cases_lt n c)) (columns-up_to has n out top)
  where
    and-all : (b : Bool) → (b && true) ≡ b
    and-all true = refl
    and-all false = refl

    go : (c : ℕ) → (n < c) ⊎ (c ≤ n) → up_to has n c ≡ has c
    go c (inl l) = rw (past c l) refl
    go c (inr g) = rw (le-leb c n g) (and-all (has c))

hole_edges-push : (holes : List Hole) (first last : ℕ) → hole_edges (holes ++ (record { first = first; last = last }) ∷ []) ≡ (hole_edges holes ++ first ∷ []) ++ (last + 1) ∷ []
hole_edges-push [] first last = refl
hole_edges-push (h ∷ hs) first last = ap (λ (ts : List ℕ). h.first ∷ (h.last + 1) ∷ ts) (hole_edges-push hs first last)

length-hole_edges : (holes : List Hole) → length (hole_edges holes) ≡ length holes + length holes
length-hole_edges [] = refl
length-hole_edges (h ∷ hs) = let rest = length-hole_edges hs in omega arith

rising-front : (low : ℕ) (xs : List ℕ) (x : ℕ) → IsRising low (xs ++ x ∷ []) → IsRising low xs
rising-front low [] x r = tt
rising-front low (t ∷ ts) x r = (r.0, rising-front t ts x r.1)

is_on-front : (on : Bool) (xs : List ℕ) (x c : ℕ) → c < x → is_on on (xs ++ x ∷ []) c ≡ is_on on xs c
is_on-front on [] x c l = rw (lt-ltb c x l) refl
is_on-front on (t ∷ ts) x c l = elim (cases_lt c t) [
  | inl b ↦ rw (lt-ltb c t b) refl
  | inr g ↦ rw (le-ltb c t g) (is_on-front (not on) ts x c l)
]

-- a column of the whole has more holes than were there before the last one that was found
found-fewer : (has : ℕ → Bool) (holes : List Hole) (first last : ℕ) (column : Extent) → Merged has (holes ++ (record { first = first; last = last }) ∷ []) (last + 1) → has (last + 1) ≡ true → IsColumnOf has column → length holes < length column.holes
found-fewer has holes first last column w there is =
    let fewer = edges_fewer true 0 0 (last + 1) (hole_edges holes ++ first ∷ []) (edges column) rising is.apart same in
    let own = length-hole_edges holes in
    let one = length-append (hole_edges holes) (first ∷ []) in
    let others = length-hole_edges column.holes in
    let whole = length-append (hole_edges column.holes) ((column.upto + 1) ∷ []) in
    omega arith
  where
    under : last + 1 ≤ column.upto
    under = elim (cases_lt column.upto (last + 1)) [
      | inl l ↦ absurd (true≢false (sym there ∙ sym (is.means (last + 1)) ∙ column_has-above column (last + 1) l))
      | inr g ↦ g
    ]

    out : has (column.upto + 1) ≡ false
    out = sym (is.means (column.upto + 1)) ∙ column_has-above column (column.upto + 1) (omega arith)

    shape : hole_edges (holes ++ (record { first = first; last = last }) ∷ []) ≡ (hole_edges holes ++ first ∷ []) ++ (last + 1) ∷ []
    shape = hole_edges-push holes first last

    rising : IsRising 0 ((hole_edges holes ++ first ∷ []) ++ (last + 1) ∷ [])
    rising = rw shape at (rising-front 0 (hole_edges (holes ++ (record { first = first; last = last }) ∷ [])) (column.upto + 1) (w.rising (column.upto + 1) (let u = under in omega arith) out))

    turned : (c : ℕ) → c ≤ last + 1 → 1 ≤ c → (c < last + 1) ⊎ (last + 1 ≤ c) → (if nat_lt c (last + 1) then has c else nat_lt c (column.upto + 1)) ≡ has c
    turned c m g (inl l) = rw (lt-ltb c (last + 1) l) refl
    turned c m g (inr f) = let e : c ≡ last + 1 = omega arith in let l : c < column.upto + 1 = let u = under in omega arith in rw (le-ltb c (last + 1) f, lt-ltb c (column.upto + 1) l) (sym (ap has e ∙ there))

    same : (c : ℕ) → c ≤ last + 1 → is_on true ((hole_edges holes ++ first ∷ []) ++ (last + 1) ∷ []) c ≡ is_on true (edges column) c
    same c m = elim (cases_lt c 1) [
      | inl z ↦ is_on-before true ((hole_edges holes ++ first ∷ []) ++ (last + 1) ∷ []) 0 c rising (omega arith) ∙ sym (is_on-before true (edges column) 0 c is.apart (omega arith))
      | inr g ↦
          ap (λ (ts : List ℕ). is_on true ts c) (sym shape)
          ∙ sym (is_on-front true (hole_edges (holes ++ (record { first = first; last = last }) ∷ [])) (column.upto + 1) c (let u = under in omega arith))
          ∙ w.means (column.upto + 1) (let u = under in omega arith) out c g
          ∙ turned c m g (cases_lt c (last + 1))
          ∙ sym (is.means c)
          ∙ column_has-edges column c is.apart g
    ]

-- THE LIMIT: where as many holes were found as a column may have, and one more is found, there are too many
pub Merged-many : (a b : Extent) (holes : List Hole) (from first last : ℕ) → Merged (has_one a b) holes from → IsStep (has_one a b) from first last → first ≤ last → MAX_HOLES ≤ length holes → a.upto ≤ MAX_COUNTER → b.upto ≤ a.upto → HasManyHoles (has_one a b)
Merged-many a b holes from first last w step some full top low =
    let whole = column-exists (has_one a b) a.upto refl top (λ c l. rw (column_has-above a c l, column_has-above b c (omega arith)) refl) in
    let more = found-fewer (has_one a b) holes first last whole.column (Merged-push (has_one a b) holes from first last w step some) step.after whole.is in
    record { column = whole.column; is = whole.is; many = omega arith }

-- THE UNION: where an author's columns put together have too many holes, so has what one of two vectors has
pub many-merged : (a b : List AuthorColumn) (k : ℕ) (x : AuthorColumn) → IsVectorFrom 0 b → k < length b → x ≡ get_or b k x → HasManyHoles (has_one (column_of a x.author) x.column) → HasTooManyHoles (both (vector_has a) (vector_has b))
many-merged a b k x vb l at many =
    let h : (c : ℕ) → has_one (column_of a x.author) x.column c ≡ of_author (both (vector_has a) (vector_has b)) x.author c = λ c. ap (λ (e : Extent). column_has (column_of a x.author) c || column_has e c) (sym (column_of-item 0 b k x vb l at)) in
    let path : has_one (column_of a x.author) x.column ≡ of_author (both (vector_has a) (vector_has b)) x.author = λ i c. h c i in
    too_many-from_author (both (vector_has a) (vector_has b)) x.author (item-IsColumn 0 b k x vb l at).2 (subst (λ (s : ℕ → Bool). HasManyHoles s) path many)

-- what holds where there is none holds, if there is none
pub if-none : {T : Type 0} {P : Type 0} (o : Option T) → ((x : T) → o ≡ Some x → ⊥) → IfNone o P → P
if-none o never holds = grind arith
