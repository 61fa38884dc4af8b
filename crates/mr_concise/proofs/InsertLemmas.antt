use Rattle.std.proofs.Common.{inl, inr, ◌≡◌, ◌<◌, ◌≤◌, ◌+◌, ◌-◌, ◌==◌, ◌||◌, ℕ, Bool, true, false, nat_lt, refl, arith, List, [], ◌∷◌, ◌++◌, length, append-nil}
use Rattle.mr_concise.proofs.Names.{Extent, Hole, IsColumn, IsRising, MAX_COUNTER, cases_eq, cases_lt, column_has, edges, eq-eqb, filled, gap, hole_edges}
use Rattle.mr_concise.proofs.Names.{if◌then◌else◌, is_on, le-leb, le-ltb, lt-leb, lt-ltb, nat_tests, ne_eqb, with_counter}
use Rattle.mr_concise.proofs.EdgeLemmas.{is_on-before, is_on-stay, IsRising-end, IsRising-lower}
use Rattle.mr_concise.proofs.ColumnLemmas.{column_has-edges, column_has-zero}

-- the edges of holes and of a bound's end
abbrev pub to_end : List Hole → ℕ → List ℕ
to_end holes end = hole_edges holes ++ end ∷ []

-- one more: the set has k, and what it had
abbrev pub HasOneMore : (ℕ → Bool) → (ℕ → Bool) → ℕ → Type 0
HasOneMore new old k = (c : ℕ) → new c ≡ ((c == k) || old c)

has_it : (old : ℕ → Bool) (k : ℕ) → old k ≡ true → HasOneMore old old k
has_it old k h c = grind (arith, cases_eq, eq-eqb, ne_eqb)

bool-1 : (c first last k : ℕ) (x : Bool) → first ≡ k → k ≡ last → (c ≤ last → x ≡ true) → x ≡ ((c == k) || (if nat_lt c first then true else (if nat_lt c (last + 1) then false else x)))
bool-1 c first last k x e q h = grind (arith, nat_tests)

bool-2 : (c first last k : ℕ) (x : Bool) → first ≡ k → k < last → (if nat_lt c (k + 1) then true else (if nat_lt c (last + 1) then false else x)) ≡ ((c == k) || (if nat_lt c first then true else (if nat_lt c (last + 1) then false else x)))
bool-2 c first last k x e q = grind (arith, nat_tests)

bool-3 : (c first last k : ℕ) (x : Bool) → first < k → k ≡ last → (c ≤ last → x ≡ true) → (if nat_lt c first then true else (if nat_lt c (k - 1 + 1) then false else x)) ≡ ((c == k) || (if nat_lt c first then true else (if nat_lt c (last + 1) then false else x)))
bool-3 c first last k x e q h = grind (arith, nat_tests)

bool-4 : (c first last k : ℕ) (x : Bool) → first < k → k < last → (if nat_lt c first then true else (if nat_lt c (k - 1 + 1) then false else (if nat_lt c (k + 1) then true else (if nat_lt c (last + 1) then false else x)))) ≡ ((c == k) || (if nat_lt c first then true else (if nat_lt c (last + 1) then false else x)))
bool-4 c first last k x e q = grind (arith, nat_tests)

-- A hole is split at k. What follows it is rising, from its end on.
split : (first last k : ℕ) (holes : List Hole) (end low : ℕ) → first ≤ k → k ≤ last → low < first → IsRising (last + 1) (to_end holes end) → IsRising low (to_end (gap first (k - 1) ++ (gap (k + 1) last ++ holes)) end) × HasOneMore (is_on true (to_end (gap first (k - 1) ++ (gap (k + 1) last ++ holes)) end)) (is_on true (first ∷ (last + 1) ∷ to_end holes end)) k
split first last k holes end low f l w r = grind (arith, cases_eq, lt-leb, IsRising-lower, bool-1, is_on-before, le-leb, bool-2, bool-3, bool-4)

bool-5 : (c first last k : ℕ) (x y : Bool) → last < k → y ≡ ((c == k) || x) → first ≤ last → (if nat_lt c first then true else (if nat_lt c (last + 1) then false else y)) ≡ ((c == k) || (if nat_lt c first then true else (if nat_lt c (last + 1) then false else x)))
bool-5 c first last k x y l h f = grind (arith, nat_tests)

-- the holes without k
pub filled-means : (k : ℕ) (holes : List Hole) (end low : ℕ) → k < end → IsRising low (to_end holes end) → IsRising low (to_end (filled k holes) end) × HasOneMore (is_on true (to_end (filled k holes) end)) (is_on true (to_end holes end)) k
filled-means k [] end low u r = (r, has_it (is_on true (end ∷ [])) k (is_on-stay true end [] k u))
filled-means k (hole ∷ holes) end low u r = elim (cases_lt k hole.first) [
  | inl below ↦ rw (lt-ltb k hole.first below) (r, has_it (is_on true (hole.first ∷ (hole.last + 1) ∷ to_end holes end)) k (is_on-stay true hole.first ((hole.last + 1) ∷ to_end holes end) k below))
  | inr from ↦ elim (cases_lt hole.last k) [
    | inl past ↦
        let rest = filled-means k holes end (hole.last + 1) u r.1.1 in
        let order : hole.first ≤ hole.last = let q = r.1.0 in omega arith in
        rw (le-ltb k hole.first from, lt-ltb hole.last k past) ((r.0, (r.1.0, rest.0)), λ c. bool-5 c hole.first hole.last k (is_on true (to_end holes end) c) (is_on true (to_end (filled k holes) end) c) past (rest.1 c) order)
    | inr inside ↦ rw (le-ltb k hole.first from, le-ltb hole.last k inside) (split hole.first hole.last k holes end low from inside r.0 r.1.1)
  ]
]

bool-6 : (c u k : ℕ) → u + 1 ≡ k → (if nat_lt c (k + 1) then true else false) ≡ ((c == k) || (if nat_lt c (u + 1) then true else false))
bool-6 c u k h = grind (arith, nat_tests)

bool-7 : (c u k : ℕ) → u + 1 < k → (if nat_lt c (u + 1) then true else (if nat_lt c (k - 1 + 1) then false else (if nat_lt c (k + 1) then true else false))) ≡ ((c == k) || (if nat_lt c (u + 1) then true else false))
bool-7 c u k h = grind (arith, nat_tests)

-- past the bound
beyond : (u k : ℕ) (holes : List Hole) (low : ℕ) → u < k → IsRising low (to_end holes (u + 1)) → IsRising low (to_end (holes ++ gap (u + 1) (k - 1)) (k + 1)) × HasOneMore (is_on true (to_end (holes ++ gap (u + 1) (k - 1)) (k + 1))) (is_on true (to_end holes (u + 1))) k
beyond u k [] low h r = grind (arith, cases_eq, lt-leb, bool-6, le-leb, bool-7)
beyond u k (hole ∷ holes) low h r = grind (arith, beyond u k holes, IsRising-end, bool-5)

-- ONE MORE: the column with k has k and what it had, and its holes are apart
pub with_counter-means : (column : Extent) (k : ℕ) → IsRising 0 (edges column) → 1 ≤ k → IsRising 0 (edges (with_counter column k)) × ((c : ℕ) → column_has (with_counter column k) c ≡ ((c == k) || column_has column c))
with_counter-means column k r from = grind (arith, cases_lt, lt-ltb, beyond, le-ltb, filled-means, ne_eqb, column_has-zero, column_has-edges)

pub IsColumn-with_counter : (column : Extent) (k : ℕ) → IsColumn column → 1 ≤ k → k ≤ MAX_COUNTER → length (with_counter column k).holes ≤ 4096 → IsColumn (with_counter column k)
IsColumn-with_counter column k h from to few = grind (arith, with_counter-means, cases_lt, lt-ltb, le-ltb)

pub IsColumn-above : (upto k : ℕ) (holes new : List Hole) → IsColumn (record { upto = upto; holes = holes }) → upto < k → k ≤ MAX_COUNTER → length (with_counter (record { upto = upto; holes = holes }) k).holes ≤ 4096 → new ≡ holes ++ gap (upto + 1) (k - 1) → IsColumn (record { upto = k; holes = new })
IsColumn-above upto k holes new h l to few e = rw e (rw (lt-ltb upto k l) at (IsColumn-with_counter (record { upto = upto; holes = holes }) k h (omega arith) to few))

pub IsColumn-within : (upto k : ℕ) (holes new : List Hole) → IsColumn (record { upto = upto; holes = holes }) → k ≤ upto → 1 ≤ k → k ≤ MAX_COUNTER → length (with_counter (record { upto = upto; holes = holes }) k).holes ≤ 4096 → new ≡ filled k holes → IsColumn (record { upto = upto; holes = new })
IsColumn-within upto k holes new h l from to few e = rw e (rw (le-ltb upto k l) at (IsColumn-with_counter (record { upto = upto; holes = holes }) k h from to few))

pub gap-one : (f l : ℕ) (holes : List Hole) → f ≤ l → holes ++ (record { first = f; last = l }) ∷ [] ≡ holes ++ gap f l
gap-one f l holes h = rw (le-leb f l h) refl

pub gap-none : (f l : ℕ) (holes : List Hole) → l < f → holes ≡ holes ++ gap f l
gap-none f l holes h = rw (lt-leb f l h, append-nil) refl
