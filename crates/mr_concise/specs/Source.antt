use Rattle.std.specs.Prelude.{◌≡◌, ◌<◌, ◌≤◌, ℕ, Bool, false, length, Option, Some, None}
use Rattle.mr_forms.specs.Sets.{Versions}
use Rattle.mr_forms.specs.Runs.{of_author}
use Rattle.mr_version.specs.declared.version.TheConstants.{MAX_COUNTER}
use Rattle.mr_concise.specs.Edges.{IsRising}
use Rattle.mr_concise.specs.Column.{Extent, edges, column_has}

-- the column in normal form that has these counters, whatever the number of its holes
pub record IsColumnOf (has : ℕ → Bool) (column : Extent) : Type 0 where
  pub apart : IsRising 0 (edges column)
  pub in_range : column.upto ≤ MAX_COUNTER
  pub means : (c : ℕ) → column_has column c ≡ has c

-- the column of these counters has just so many holes
pub record HasHoles (has : ℕ → Bool) (count : ℕ) : Type 0 where
  pub column : Extent
  pub is : IsColumnOf has column
  pub count_is : count ≡ length column.holes

-- the column of these counters has no more holes than that
abbrev pub HasAtMostHoles : (ℕ → Bool) → ℕ → Type 0
HasAtMostHoles has most = (column : Extent) → IsColumnOf has column → length column.holes ≤ most

-- no author's column of the set has more holes than that
abbrev pub ColumnsHaveAtMost : Versions → ℕ → Type 0
ColumnsHaveAtMost set most = (q : ℕ) → HasAtMostHoles (of_author set q) most

-- the column of these counters has fewer holes than that
pub record HasFewerHoles (has : ℕ → Bool) (limit : ℕ) : Type 0 where
  pub column : Extent
  pub is : IsColumnOf has column
  pub fewer : length column.holes < limit

-- the column of these counters has so many holes or more
abbrev pub HasAtLeastHoles : (ℕ → Bool) → ℕ → Type 0
HasAtLeastHoles has least = (column : Extent) → IsColumnOf has column → least ≤ length column.holes

-- what it has, where there is one
abbrev pub in_some : {X : Type 0} → (X → Versions) → Option X → Versions
in_some has None v = false
in_some has (Some x) v = has x v
