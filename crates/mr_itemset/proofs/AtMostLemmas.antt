use Rattle.std.proofs.Common.{◌≡◌, ◌≤◌, ◌+◌, ◌⊎◌, ◌||◌, ◌&&◌, ℕ, Bool, true, false, nat_le, List, length, refl, ap, sym, ◌∙◌, arith, inl, inr}
use Rattle.mr_itemset.proofs.Names.{AuthorColumn, ColumnsHaveAtMost, Extent, HasAtMost, HasAtMostHoles, HasHoleyItem, HasTooManyHoles, IsColumnOf}
use Rattle.mr_itemset.proofs.Names.{IsColumnOf-unique, IsKept, IsNormal, IsSame, IsSparse, IsVectorFrom, IsVectorOf, MAX_HOLES, Normal, Versions}
use Rattle.mr_itemset.proofs.Names.{at_most-from_holes, cases_Bool, cases_lt, column_has, column_has-above, column_of, column_of-IsColumn, column_upto}
use Rattle.mr_itemset.proofs.Names.{few-of_authors, folded, le-leb, normal_known, of_author, true≢false, vector_has, vector_of}
use Rattle.mr_version.specs.declared.version.TheConstants.{MAX_COUNTER}
use Rattle.mr_forms.specs.Sets.{both}
use Rattle.mr_itemset.specs.ItemForm.{with_all}
use Rattle.mr_itemset.proofs.FoldedLemmas.{folded_known}
use Rattle.mr_itemset.proofs.ItemLemmas.{vector_of-IsVector}
use Rattle.mr_itemset.proofs.ColumnsLemmas.{upto_low, both_within, upto_means}

-- what a column has is from 1 to its bound
column_in : (column : Extent) (c : ℕ) → column_has column c ≡ true → (1 ≤ c) × (c ≤ column.upto)
column_in column c is_in = grind (arith, true≢false, cases_lt, column_has-above)

-- a set of counters from 1 to a bound has a column
upto_is : (has : ℕ → Bool) (n : ℕ) → n ≤ MAX_COUNTER → ((c : ℕ) → has c ≡ true → (1 ≤ c) × (c ≤ n)) → IsColumnOf has (column_upto has n)
upto_is has n bound within = record {
  apart = (upto_means has n).0;
  in_range = let low = upto_low has n in omega arith;
  means = λ c. (upto_means has n).1 c ∙ go c (cases_Bool (has c));
}
  where
    and_false : (b : Bool) → (b && false) ≡ false
    and_false true = refl
    and_false false = refl

    go : (c : ℕ) → (has c ≡ true) ⊎ (has c ≡ false) → ((nat_le 1 c && nat_le c n) && has c) ≡ has c
    go c (inl is_in) = let range = within c is_in in rw (le-leb 1 c range.0, le-leb c n range.1) refl
    go c (inr is_out) = rw is_out (and_false (nat_le 1 c && nat_le c n))

or_first : (a b : Bool) → a ≡ true → (a || b) ≡ true
or_first a b e = grind (arith, true≢false)

or_second : (a b : Bool) → b ≡ true → (a || b) ≡ true
or_second a b e = grind arith

-- THE HOLES OF BOTH are no more than those of the one and of the other
at_most-both : (f g : ℕ → Bool) (m n : ℕ) → HasAtMostHoles f m → HasAtMostHoles g n → HasAtMostHoles (λ c. f c || g c) (m + n)
at_most-both f g m n few_f few_g column is =
    let first = few_f (column_upto f column.upto) (upto_is f column.upto is.in_range (λ c e. column_in column c (is.means c ∙ or_first (f c) (g c) e))) in
    let second = few_g (column_upto g column.upto) (upto_is g column.upto is.in_range (λ c e. column_in column c (is.means c ∙ or_second (f c) (g c) e))) in
    let same = ap (λ (x : Extent). length x.holes) (IsColumnOf-unique (λ c. f c || g c) column (column_upto (λ c. f c || g c) column.upto) is (upto_is (λ c. f c || g c) column.upto is.in_range (λ c e. column_in column c (is.means c ∙ e)))) in
    let together = (both_within f g column.upto).2 in
    omega arith

at_most-same : (f g : ℕ → Bool) (most more : ℕ) → ((c : ℕ) → f c ≡ g c) → most ≤ more → HasAtMostHoles f most → HasAtMostHoles g more
at_most-same f g most more same le few column is = let h = few column (record { apart = is.apart; in_range = is.in_range; means = λ c. is.means c ∙ sym (same c) }) in omega arith

-- the column of a vector's author
at_most-vector : (columns : List AuthorColumn) (q : ℕ) → IsVectorFrom 0 columns → HasAtMostHoles (of_author (vector_has columns) q) (length (column_of columns q).holes)
at_most-vector columns q ok =
    let own = column_of-IsColumn 0 columns q ok in
    at_most-from_holes (of_author (vector_has columns) q) (length (column_of columns q).holes) (length (column_of columns q).holes)
    (record { column = column_of columns q; is = record { apart = own.apart; in_range = own.in_range; means = λ c. refl }; count_is = refl }) (omega arith)

regroup : (s o v p : Bool) → ((s || o) || (v || p)) ≡ (s || ((v || p) || o))
regroup s o v p = grind arith

at_most-columns : (columns : List AuthorColumn) (few q : ℕ) → IsVectorFrom 0 columns → HasAtMost few columns → HasAtMostHoles (of_author (vector_has columns) q) few
at_most-columns columns few q ok has = at_most-same (of_author (vector_has columns) q) (of_author (vector_has columns) q) (length (column_of columns q).holes) few (λ c. refl) (has q) (at_most-vector columns q ok)

-- WHERE THE HOLES FIT TOGETHER no column of an item has too many with its versions, those of all items and those that are pending
pub few_with : (pending : List AuthorColumn) (learned set own : Versions) (most waiting added : ℕ) → IsVectorFrom 0 pending → ColumnsHaveAtMost (both set own) most → HasAtMost waiting pending → ColumnsHaveAtMost learned added → (most + waiting) + added ≤ MAX_HOLES → HasTooManyHoles (both set (both (both learned (vector_has pending)) own)) → ⊥
few_with pending learned set own most waiting added ok few few_pending few_learned room =
    few-of_authors (both set (both (both learned (vector_has pending)) own))
    (λ q. at_most-same (of_author (both (both set own) (both learned (vector_has pending))) q) (of_author (both set (both (both learned (vector_has pending)) own)) q) (most + (added + waiting)) MAX_HOLES
    (λ c. regroup (of_author set q c) (of_author own q c) (of_author learned q c) (of_author (vector_has pending) q c)) (omega arith)
    (at_most-both (of_author (both set own) q) (of_author (both learned (vector_has pending)) q) most (added + waiting) (few q)
    (at_most-both (of_author learned q) (of_author (vector_has pending) q) added waiting (few_learned q) (at_most-columns pending waiting q ok few_pending))))

or_swapped : (a b : Bool) → (a || b) ≡ (b || a)
or_swapped a b = grind arith

-- what is united of what waits and of versions, as of versions and what waits
pub united_same : (new pending vector : List AuthorColumn) (learned : Versions) → IsSame (vector_has new) (both (vector_has pending) (vector_has vector)) → IsSame (vector_has vector) learned → IsSame (vector_has new) (both learned (vector_has pending))
united_same new pending vector learned united has v = united v ∙ ap (λ (b : Bool). vector_has pending v || b) (has v) ∙ or_swapped (vector_has pending v) (learned v)

-- WHERE THE HOLES FIT TOGETHER these versions may wait with the others
pub pending_kept : {limit : ℕ} (settled : Normal) (pending new : List AuthorColumn) (most waiting added : ℕ) (learned : Versions) → IsNormal limit settled → IsSparse settled most → IsVectorFrom 0 pending → IsVectorOf (both learned (vector_has pending)) new → HasAtMost waiting pending → ColumnsHaveAtMost learned added → (most + waiting) + added ≤ MAX_HOLES → IsKept limit settled new most
pending_kept settled pending new most waiting added learned normal sparse ok is few_pending few_learned room = record {
  normal = normal;
  vector_ok = is.columns_ok;
  few = sparse;
  room = λ q.
      let own = column_of-IsColumn 0 new q is.columns_ok in
      let few : length (column_of new q).holes ≤ added + waiting =
      at_most-both (of_author learned q) (of_author (vector_has pending) q) added waiting (few_learned q) (at_most-columns pending waiting q ok few_pending) (column_of new q)
      (record { apart = own.apart; in_range = own.in_range; means = λ c. is.has (record { author = q; counter = c }) }) in
      omega arith;
}

-- WHERE THE HOLES FIT TOGETHER no item has too many with these versions for all items
pub few_for_all : {limit : ℕ} (settled : Normal) (pending : List AuthorColumn) (most waiting added : ℕ) (learned : Versions) → IsKept limit settled pending most → HasAtMost waiting pending → ColumnsHaveAtMost learned added → (most + waiting) + added ≤ MAX_HOLES → HasHoleyItem (with_all (normal_known (folded settled pending)) learned) → ⊥
few_for_all settled pending most waiting added learned kept few_pending few_learned room holey =
    few-of_authors (with_all (normal_known (folded settled pending)) learned holey.item)
    (λ q. at_most-same (of_author (both learned (both (vector_has pending) (normal_known settled holey.item))) q) (of_author (with_all (normal_known (folded settled pending)) learned holey.item) q) (added + (waiting + most)) MAX_HOLES
    (λ c. ap (λ (b : Bool). of_author learned q c || b) (sym (folded_known settled pending most kept holey.item (record { author = q; counter = c })))) (omega arith)
    (at_most-both (of_author learned q) (of_author (both (vector_has pending) (normal_known settled holey.item)) q) added (waiting + most) (few_learned q)
    (at_most-both (of_author (vector_has pending) q) (of_author (normal_known settled holey.item) q) waiting most (at_most-columns pending waiting q kept.vector_ok few_pending)
    (at_most-columns (vector_of settled holey.item) most q (vector_of-IsVector settled holey.item kept.normal) (kept.few holey.item)))))
    holey.holes
