use Rattle.std.proofs.Common.{inl, inr, ◌≡◌, ◌<◌, ◌≤◌, ◌+◌, ◌-◌, ◌==◌, ◌&&◌, ℕ, Bool, true, false, nat_lt, cond, refl, ap, sym, ◌∙◌, arith, List, [], ◌∷◌, ◌++◌, length, length-append}
use Rattle.mr_concise.proofs.Names.{AuthorColumn, COUNTERS_END, ColumnsHaveAtMost, Extent, FormFault, HasAtLeastHoles, HasAtMostHoles, HasFewHoles}
use Rattle.mr_concise.proofs.Names.{HasFewerHoles, HasHoles, HasManyHoles, HasNoAuthorFrom, HasNoneFrom, HasTooManyHoles, Hole, IsColumn, IsColumnOf, IsErrOf}
use Rattle.mr_concise.proofs.Names.{IsNextAuthor, IsNextIn, IsNextOut, IsRising, IsSame, IsVectorFrom, OnOk, Result, TooManyHoles, Versions, cases_eq}
use Rattle.mr_concise.proofs.Names.{cases_lt, column_has, column_of, edges, empty_column, eq-eqb, hole_edges, if◌then◌else◌, is_on, le-ltb, lt-ltb, nat_tests}
use Rattle.mr_concise.proofs.Names.{ne_eqb, of_author, true≢false, vector_has, with_column}
use Rattle.mr_concise.proofs.EdgeLemmas.{IsRising-end, is_on-before, edges_fewer}
use Rattle.mr_concise.proofs.ColumnLemmas.{column_unique, column_has-edges}
use Rattle.mr_concise.proofs.VectorLemmas.{column_of-with_column, IsVectorFrom-with_column}
use Rattle.mr_concise.proofs.UnionLemmas.{column_has-empty, IsColumn-empty}
use Rattle.mr_concise.proofs.LastLemmas.{column_has-above}

bool-extend : (c at t e : ℕ) → at < t → t < e → (if nat_lt c at then true else (if nat_lt c t then false else (if nat_lt c e then true else false))) ≡ (if nat_lt c t then (if nat_lt c at then true else false) else nat_lt c e)
bool-extend c at t e l m = grind (arith, nat_tests)

bool-under : (c first last t : ℕ) (x y z : Bool) → first ≤ last + 1 → last + 1 < t → y ≡ (if nat_lt c t then x else z) → (if nat_lt c first then true else (if nat_lt c (last + 1) then false else y)) ≡ (if nat_lt c t then (if nat_lt c first then true else (if nat_lt c (last + 1) then false else x)) else z)
bool-under c first last t x y z o l e = grind (arith, nat_tests)

-- a hole more, from where the column ended, and a new end
pub extend : (low at t e : ℕ) (holes : List Hole) → IsRising low (hole_edges holes ++ at ∷ []) → at < t → t < e → IsRising low (hole_edges (holes ++ (record { first = at; last = t - 1 }) ∷ []) ++ e ∷ []) × ((c : ℕ) → is_on true (hole_edges (holes ++ (record { first = at; last = t - 1 }) ∷ []) ++ e ∷ []) c ≡ (if nat_lt c t then is_on true (hole_edges holes ++ at ∷ []) c else nat_lt c e))
extend low at t e [] r l m = let back : t - 1 + 1 ≡ t = omega arith in rw back ((r.0, (l, (m, tt))), λ c. bool-extend c at t e l m)
extend low at t e (h ∷ holes) r l m =
    let rest = extend (h.last + 1) at t e holes r.1.1 l m in
    let end : h.last + 1 < at = IsRising-end (h.last + 1) (hole_edges holes) at r.1.1 in
    ((r.0, (r.1.0, rest.0)), λ c. bool-under c h.first h.last t (is_on true (hole_edges holes ++ at ∷ []) c) (is_on true (hole_edges (holes ++ (record { first = at; last = t - 1 }) ∷ []) ++ e ∷ []) c) (nat_lt c e) (let o = r.1.0 in omega arith) (omega arith) (rest.1 c))

-- How far a walk along a set has come: the holes found, and the first counter after them that it has not.
pub record Swept (has : ℕ → Bool) (holes : List Hole) (at : ℕ) : Type 0 where
  pub rising : IsRising 0 (hole_edges holes ++ at ∷ [])
  pub from_one : 1 ≤ at
  pub bound : at ≤ COUNTERS_END
  pub is_out : has at ≡ false
  pub means : (c : ℕ) → 1 ≤ c → c < at → is_on true (hole_edges holes ++ at ∷ []) c ≡ has c
  pub past : (c : ℕ) → at ≤ c → is_on true (hole_edges holes ++ at ∷ []) c ≡ false
  pub counted : length holes < at

pub swept-more : (has : ℕ → Bool) (holes : List Hole) (at t e : ℕ) → Swept has holes at → IsNextIn has at t → IsNextOut has t e → e ≤ COUNTERS_END → Swept has (holes ++ (record { first = at; last = t - 1 }) ∷ []) e
swept-more has holes at t e w n o bound =
    let up = n.above in
    let further = o.above in
    let lt : at < t = elim (cases_eq at t) [
      | inl q ↦ absurd (true≢false (sym n.is_in ∙ ap has (sym q) ∙ w.is_out))
      | inr q ↦ omega arith
    ] in
    let lt' : t < e = elim (cases_eq t e) [
      | inl q ↦ absurd (true≢false (sym n.is_in ∙ ap has q ∙ o.is_out))
      | inr q ↦ omega arith
    ] in
    let both = extend 0 at t e holes w.rising lt lt' in
    let count = w.counted in
    let one = w.from_one in
    record {
      rising = both.0;
      from_one = omega arith;
      bound = bound;
      is_out = o.is_out;
      means = λ c f l. both.1 c ∙ elim (cases_lt c t) [
        | inl b ↦ rw (lt-ltb c t b) (elim (cases_lt c at) [
          | inl a ↦ w.means c f a
          | inr a ↦ w.past c a ∙ sym (n.between c a b)
        ])
        | inr b ↦ rw (le-ltb c t b, lt-ltb c e l) (sym (o.between c b l))
      ];
      past = λ c g. let above : t ≤ c = omega arith in both.1 c ∙ rw (le-ltb c t above, le-ltb c e g) refl;
      counted = let k = length-append holes ((record { first = at; last = t - 1 }) ∷ []) in omega arith;
    }

-- where nothing is left, the holes and the end are the set's column
pub swept-end : (has : ℕ → Bool) (holes : List Hole) (at : ℕ) → has 0 ≡ false → Swept has holes at → HasNoneFrom has at → IsColumnOf has (record { upto = at - 1; holes = holes })
swept-end has holes at zero_out w none =
    let one = w.from_one in
    let top = w.bound in
    let back : at - 1 + 1 ≡ at = omega arith in
    let rising : IsRising 0 (edges (record { upto = at - 1; holes = holes })) = rw back w.rising in
    record {
      apart = rising;
      in_range = omega arith;
      means = λ c. elim (cases_lt c 1) [
        | inl l ↦ let z : c ≡ 0 = omega arith in rw z (sym zero_out)
        | inr g ↦ column_has-edges (record { upto = at - 1; holes = holes }) c rising g ∙ rw back (elim (cases_lt c at) [
          | inl l ↦ w.means c g l
          | inr a ↦ w.past c a ∙ sym (none c a)
        ])
      ];
    }

-- one column, so one number of holes
pub IsColumnOf-unique : (has : ℕ → Bool) (a b : Extent) → IsColumnOf has a → IsColumnOf has b → a ≡ b
IsColumnOf-unique has a b x y = column_unique a b x.apart y.apart (λ c. x.means c ∙ sym (y.means c))

pub at_most-from_holes : (has : ℕ → Bool) (count most : ℕ) → HasHoles has count → count ≤ most → HasAtMostHoles has most
at_most-from_holes has count most holes le other w = let e = ap (λ (x : Extent). length x.holes) (IsColumnOf-unique has other holes.column w holes.is) in let c = holes.count_is in omega arith

pub few-from_column : (has : ℕ → Bool) (column : Extent) → IsColumnOf has column → length column.holes ≤ 4096 → HasFewHoles has
few-from_column has column is few = at_most-from_holes has (length column.holes) 4096 (record { column = column; is = is; count_is = refl }) few

pub many-from_holes : (has : ℕ → Bool) (count : ℕ) → HasHoles has count → 4096 < count → HasManyHoles has
many-from_holes has count holes l = record { column = holes.column; is = holes.is; many = let c = holes.count_is in omega arith }

pub IsColumn-from_few : (has : ℕ → Bool) (column : Extent) → IsColumnOf has column → HasFewHoles has → IsColumn column
IsColumn-from_few has column is few = record { apart = is.apart; in_range = is.in_range; few = few column is }

-- the empty column has no holes
pub at_most-from_none : (has : ℕ → Bool) (most : ℕ) → ((c : ℕ) → has c ≡ false) → HasAtMostHoles has most
at_most-from_none has most none = at_most-from_holes has 0 most (record { column = empty_column; is = record { apart = IsColumn-empty.apart; in_range = IsColumn-empty.in_range; means = λ c. column_has-empty c ∙ sym (none c) }; count_is = refl }) (omega arith)

pub too_many-from_author : (set : Versions) (q : ℕ) → q < 64 → HasManyHoles (of_author set q) → HasTooManyHoles set
too_many-from_author set q in_range many = record { author = q; author_in = in_range; column = many.column; apart = many.is.apart; in_range = many.is.in_range; means = many.is.means; many = many.many }

pub few-of_authors : (set : Versions) → ((q : ℕ) → HasFewHoles (of_author set q)) → HasTooManyHoles set → ⊥
few-of_authors set few many = let f = few many.author many.column (record { apart = many.apart; in_range = many.in_range; means = many.means }) in let m = many.many in absurd (omega arith)

-- so many holes are found
pub record SweptCount (has : ℕ → Bool) (count at : ℕ) : Type 0 where
  pub holes : List Hole
  pub count_is : count ≡ length holes
  pub swept : Swept has holes at

pub SweptCount-more : (has : ℕ → Bool) (count at t e : ℕ) → SweptCount has count at → IsNextIn has at t → IsNextOut has t e → e ≤ COUNTERS_END → SweptCount has (count + 1) e
SweptCount-more has count at t e w n o bound = record {
  holes = w.holes ++ (record { first = at; last = t - 1 }) ∷ [];
  count_is = let c = w.count_is in let k = length-append w.holes ((record { first = at; last = t - 1 }) ∷ []) in omega arith;
  swept = swept-more has w.holes at t e w.swept n o bound;
}

pub SweptCount-end : (has : ℕ → Bool) (count at : ℕ) → has 0 ≡ false → SweptCount has count at → HasNoneFrom has at → HasHoles has count
SweptCount-end has count at zero_out w none = record { column = record { upto = at - 1; holes = w.holes }; is = swept-end has w.holes at zero_out w.swept none; count_is = w.count_is }

-- where nothing is left before so many are found, there are fewer
pub fewer-from_end : (has : ℕ → Bool) (count at limit : ℕ) → has 0 ≡ false → SweptCount has count at → HasNoneFrom has at → count < limit → HasFewerHoles has limit
fewer-from_end has count at limit zero_out w none l = record {
  column = record { upto = at - 1; holes = w.holes };
  is = swept-end has w.holes at zero_out w.swept none;
  fewer = let c = w.count_is in omega arith;
}

length-hole_edges : (holes : List Hole) → length (hole_edges holes) ≡ length holes + length holes
length-hole_edges [] = refl
length-hole_edges (h ∷ hs) = let rest = length-hole_edges hs in omega arith

-- a walk finds no more holes than the column has
swept-found : (has : ℕ → Bool) (holes : List Hole) (at : ℕ) → Swept has holes at → HasAtLeastHoles has (length holes)
swept-found has holes at w column is =
    let fewer = edges_fewer true 0 0 at (hole_edges holes) (edges column) w.rising is.apart (λ c m. elim (cases_lt c 1) [
      | inl z ↦ is_on-before true (hole_edges holes ++ at ∷ []) 0 c w.rising (omega arith) ∙ sym (is_on-before true (edges column) 0 c is.apart (omega arith))
      | inr g ↦ found c m g ∙ sym (is.means c) ∙ column_has-edges column c is.apart g
    ]) in
    let own = length-hole_edges holes in
    let others = length-hole_edges column.holes in
    let whole = length-append (hole_edges column.holes) ((column.upto + 1) ∷ []) in
    omega arith
  where
    found : (c : ℕ) → c ≤ at → 1 ≤ c → is_on true (hole_edges holes ++ at ∷ []) c ≡ has c
    found c m g = elim (cases_lt c at) [
      | inl b ↦ w.means c g b
      | inr a ↦ let e : at ≡ c = omega arith in w.past c a ∙ sym w.is_out ∙ ap has e
    ]

pub at_least-from_found : (has : ℕ → Bool) (count at limit : ℕ) → SweptCount has count at → limit ≤ count → HasAtLeastHoles has limit
at_least-from_found has count at limit w l column is = let found = swept-found has w.holes at w.swept column is in let c = w.count_is in omega arith

-- the authors below id are gone through
pub at_most-next : (set : Versions) (most more id author : ℕ) → most ≤ more → ((q : ℕ) → q < id → HasAtMostHoles (of_author set q) most) → IsNextAuthor set id author → HasAtMostHoles (of_author set author) more → (q : ℕ) → q < author + 1 → HasAtMostHoles (of_author set q) more
at_most-next set most more id author le below n few q l = elim (cases_lt q id) [
  | inl b ↦ λ column is. let h = below q b column is in omega arith
  | inr f ↦ elim (cases_eq q author) [
    | inl e ↦ rw e few
    | inr e ↦ at_most-from_none (of_author set q) more (n.between q f (omega arith))
  ]
]

pub at_most-all : (set : Versions) (most id : ℕ) → ((q : ℕ) → q < id → HasAtMostHoles (of_author set q) most) → HasNoAuthorFrom set id → ColumnsHaveAtMost set most
at_most-all set most id below none q = elim (cases_lt q id) [
  | inl b ↦ below q b
  | inr f ↦ at_most-from_none (of_author set q) most (none q f)
]

-- where each author has no more holes than a bound, the next one hasn't either
pub holes-within : (set : Versions) (author count n : ℕ) → HasHoles (of_author set author) count → ColumnsHaveAtMost set n → count ≤ n
holes-within set author count n holes most = let h = most author holes.column holes.is in let c = holes.count_is in omega arith

-- the columns of the authors below id
pub record GatheredTo (set : Versions) (columns : List AuthorColumn) (id : ℕ) : Type 0 where
  pub vector : IsVectorFrom 0 columns
  pub means : (q c : ℕ) → column_has (column_of columns q) c ≡ (nat_lt q id && of_author set q c)

-- no author is below the first
pub GatheredTo-none : (set : Versions) → GatheredTo set [] 0
GatheredTo-none set = grind (arith, le-ltb, column_has-empty)

-- once no author is left, the columns have the whole set
pub GatheredTo-whole : (set : Versions) (columns : List AuthorColumn) (id : ℕ) → GatheredTo set columns id → HasNoAuthorFrom set id → IsSame (vector_has columns) set
GatheredTo-whole set columns id w h v = grind (arith, cases_lt, lt-ltb, le-ltb)

-- what the columns have once the author is gone through
gathered-means : (set : Versions) (columns : List AuthorColumn) (id author : ℕ) (column : Extent) → GatheredTo set columns id → IsNextAuthor set id author → IsColumnOf (of_author set author) column → (q c : ℕ) → column_has (cond (author == q) column (column_of columns q)) c ≡ (nat_lt q (author + 1) && of_author set q c)
gathered-means set columns id author column w n is q c = grind (arith, cases_eq, eq-eqb, lt-ltb, ne_eqb, cases_lt, le-ltb)

pub GatheredTo-put : (set : Versions) (columns : List AuthorColumn) (id author : ℕ) (column : Extent) → GatheredTo set columns id → IsNextAuthor set id author → IsColumn column → IsColumnOf (of_author set author) column → 0 < column.upto → GatheredTo set (with_column (record { author = author; column = column }) columns) (author + 1)
GatheredTo-put set columns id author column w n normal is some = record {
  vector = IsVectorFrom-with_column 0 (record { author = author; column = column }) columns w.vector (omega arith) (omega arith) normal n.author_in;
  means = λ q c. rw (column_of-with_column (record { author = author; column = column }) columns q) (gathered-means set columns id author column w n is q c);
}

pub GatheredTo-skip : (set : Versions) (columns : List AuthorColumn) (id author : ℕ) (column : Extent) → GatheredTo set columns id → IsNextAuthor set id author → IsColumnOf (of_author set author) column → column.upto ≤ 0 → GatheredTo set columns (author + 1)
GatheredTo-skip set columns id author column w n is h = grind (arith, cases_eq, gathered-means, column_has-above, le-ltb, eq-eqb, ne_eqb)

-- where a fault comes in each case of a fact, success comes in none
pub few_from_holes : {T : Type 0} {P : Type 0} (result : Result T FormFault) → (P → IsErrOf result TooManyHoles) → OnOk result (¬ P)
few_from_holes result fault = grind arith
