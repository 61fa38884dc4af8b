use Rattle.std.proofs.Common.{◌≡◌, ◌≤◌, ℕ, Bool, true, false, ◌||◌, refl, ap, arith, List, length}
use Rattle.mr_concise.proofs.Names.{AuthorColumn, Extent, HasAtLeastHoles, HasTooManyHoles, IsColumnOf, IsSame, IsVectorFrom, Versions, both, column_has}
use Rattle.mr_concise.proofs.Names.{column_of, of_author, vector_has}
use Rattle.mr_concise.proofs.LastLemmas.{column_has-above}
use Rattle.mr_concise.proofs.SweepLemmas.{IsColumnOf-unique, few-from_column, few-of_authors}
use Rattle.mr_concise.proofs.UnionLemmas.{column_of-IsColumn}

-- a column whose bound is 0 has nothing
nothing-in : (column : Extent) (c : ℕ) → column.upto ≤ 0 → column_has column c ≡ false
nothing-in column c low = grind (arith, column_has-above)

or-false : (s : Bool) → s ≡ (s || false)
or-false true = refl
or-false false = refl

-- where the second vector has nothing of the author, the column of both is the first one's
pub first_alone : (a b : List AuthorColumn) (q : ℕ) → IsVectorFrom 0 a → (column_of b q).upto ≤ 0 → IsColumnOf (of_author (both (vector_has a) (vector_has b)) q) (column_of a q)
first_alone a b q v none = let is = column_of-IsColumn 0 a q v in record { apart = is.apart; in_range = is.in_range; means = λ c. rw (nothing-in (column_of b q) c none) (or-false (column_has (column_of a q) c)) }

-- where the first vector has nothing of the author, it is the second one's
pub second_alone : (a b : List AuthorColumn) (q : ℕ) → IsVectorFrom 0 b → (column_of a q).upto ≤ 0 → IsColumnOf (of_author (both (vector_has a) (vector_has b)) q) (column_of b q)
second_alone a b q v none = let is = column_of-IsColumn 0 b q v in record { apart = is.apart; in_range = is.in_range; means = λ c. rw (nothing-in (column_of a q) c none) refl }

pub at_least-from_column : (has : ℕ → Bool) (column : Extent) (limit : ℕ) → IsColumnOf has column → limit ≤ length column.holes → HasAtLeastHoles has limit
at_least-from_column has column limit is l other w = let e = ap (λ (x : Extent). length x.holes) (IsColumnOf-unique has other column w is) in omega arith

-- a set that has a vector has few holes
pub few-from_vector : (columns : List AuthorColumn) (set : Versions) → IsVectorFrom 0 columns → IsSame (vector_has columns) set → HasTooManyHoles set → ⊥
few-from_vector columns set v same = few-of_authors set (λ q. let is = column_of-IsColumn 0 columns q v in few-from_column (of_author set q) (column_of columns q) (record { apart = is.apart; in_range = is.in_range; means = λ c. same (record { author = q; counter = c }) }) is.few)
