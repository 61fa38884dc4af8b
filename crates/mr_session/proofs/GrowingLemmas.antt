-- A vector that grows by runs: what each step makes of it.
use Rattle.std.proofs.Common.{◌≡◌, ◌≤◌, ◌<◌, ◌+◌, ◌-◌, ◌||◌, nat_le, ℕ, Bool, List, [], ◌∷◌, ◌++◌, length, Result, IfOk, arith}
use Rattle.mr_session.proofs.Names.{AreCut, AuthorColumn, Extent, HasJust, Hole, IsAbove, IsClosed, IsExtended, IsGrowth, IsSame, IsTurned, Name, Run}
use Rattle.mr_session.proofs.Names.{Versions, extent, gap, is_listed, list_any-append, with_last}
use Rattle.mr_forms.specs.Runs.{with_run}
use Rattle.mr_session.proofs.RowLemmas.{in_row, listed_row}
use Rattle.mr_session.proofs.GrowLemmas.{below_higher, below_more, vector_more, has_more_column, last_empty, last_more, with_run_above, above_apart}

pub closes_with : (columns : List AuthorColumn) (author : ℕ) (column : Extent) → IsGrowth columns author column → 1 ≤ column.upto → author < 64 → IsClosed columns author column (columns ++ (record { author = author; column = column }) ∷ [])
closes_with columns author column is some author_in = grind (arith, vector_more, has_more_column, below_more, below_higher)

some_from : (n : ℕ) → (n ≡ 0 → ⊥) → 1 ≤ n
some_from n h = grind arith

-- the column goes behind the others where it has something
pub closes : (columns : List AuthorColumn) (author : ℕ) (column : Extent) → IsGrowth columns author column → (column.upto ≡ 0 → ⊥) → author < 64 → IsClosed columns author column (columns ++ (record { author = author; column = column }) ∷ [])
closes columns author column is some author_in = closes_with columns author column is (some_from column.upto some) author_in

-- another author's column begins
pub turns : (columns : List AuthorColumn) (author : ℕ) (column : Extent) (run : Run) (closed : List AuthorColumn) → IsClosed columns author column closed → author < run.author → IsTurned (with_last columns author column) run closed run.author (extent 0 [])
turns columns author column run closed is less = grind (arith, below_higher, last_empty)

-- or the author is the same
pub stays : (columns : List AuthorColumn) (author : ℕ) (column : Extent) (run : Run) → IsGrowth columns author column → author ≡ run.author → IsAbove author column.upto run.author run.first → IsTurned (with_last columns author column) run columns author column
stays columns author column run is same above = grind arith

-- a run came above the last column's bound
pub extends_last : (columns : List AuthorColumn) (author : ℕ) (column : Extent) (run : Run) (holes : List Hole) → IsGrowth columns author column → author ≡ run.author → column.upto < run.first
    → holes ≡ column.holes ++ gap (column.upto + 1) (run.first - 1) → length holes ≤ 4096 → IsExtended (with_last columns author column) run columns author (extent run.last holes)
extends_last columns author column run holes is author_is above holes_are few = grind (arith, with_run_above, above_apart, last_more, nat_le)

-- ---- a row more

swapped : (a b : Bool) → (a || b) ≡ (b || a)
swapped a b = grind arith

-- what has the versions so far and a run has them and the row
pub row_listed : (old new : Versions) (done : List Name) (first : Name) (n : ℕ) (run : Run) → 1 ≤ n → run.author ≡ first.author → run.first ≡ first.counter → run.last ≡ first.counter + (n - 1)
    → IsSame old (is_listed done) → IsSame new (with_run old run) → IsSame new (is_listed (done ++ in_row first n))
row_listed old new done first n run some author_is first_is last_is so_far grown w = grind (arith, nat_le, in_row, listed_row, swapped, list_any-append)

-- what holds of a result holds by another name
pub cut_of_one : {T E : Type 0} (items : T → List (List AuthorColumn)) (r : Result T E) (names : List Name) (vector : List AuthorColumn) → IfOk r (λ q. items q ≡ vector ∷ []) → HasJust names vector → IfOk r (λ q. AreCut names (items q))
cut_of_one items r names vector is has = grind arith
