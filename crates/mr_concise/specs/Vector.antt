use Rattle.std.specs.Prelude.{◌≡◌, ◌<◌, ◌≤◌, ◌+◌, ℕ, ◌==◌, nat_lt, if◌then◌else◌, List, [], ◌∷◌, length, refl}
use Rattle.std.specs.Coded.{Coded, code_by, coded×, coded_ℕ}
use Rattle.mr_forms.specs.Sets.{Versions, IsSame}
use Rattle.mr_version.specs.declared.version.TheConstants.{MAX_COUNTER}
use Rattle.mr_concise.specs.declared.vector.AuthorColumn.{AuthorColumn}
use Rattle.mr_concise.specs.declared.column.TheConstants.{MAX_HOLES}
use Rattle.mr_concise.specs.Edges.{IsRising}
use Rattle.mr_concise.specs.Column.{Extent, extent_code, edges, column_has, empty_column, IsColumn}
use Rattle.mr_version.specs.declared.author.TheConstants.{AUTHORS}

abbrev pub author_column_code : Coded AuthorColumn
author_column_code = code_by (ℕ × Extent) (coded× coded_ℕ extent_code) (λ x. (x.author, x.column)) (λ p. record { author = p.0; column = p.1 }) (λ _. refl)

-- the author's column, or an empty one
abbrev pub column_of : List AuthorColumn → ℕ → Extent
column_of [] author = empty_column
column_of (x ∷ xs) author = if x.author == author then x.column else column_of xs author

-- the versions of each author's column
abbrev pub vector_has : List AuthorColumn → Versions
vector_has columns v = column_has (column_of columns v.author) v.counter

-- columns by strictly rising author, from low on, none empty
abbrev pub IsVectorFrom : ℕ → List AuthorColumn → Type 0
IsVectorFrom low [] = Unit {0}
IsVectorFrom low (x ∷ xs) = (low ≤ x.author) × (1 ≤ x.column.upto) × IsColumn x.column × IsVectorFrom (x.author + 1) xs × (x.author < AUTHORS)

-- The vector of a set: columns as they have to be, with just the set's versions. A set has one at most.
pub record IsVectorOf (set : Versions) (columns : List AuthorColumn) : Type 0 where
  pub columns_ok : IsVectorFrom 0 columns
  pub has : IsSame (vector_has columns) set

-- the columns with this one in its author's place
abbrev pub with_column : AuthorColumn → List AuthorColumn → List AuthorColumn
with_column new [] = new ∷ []
with_column new (x ∷ xs) = if nat_lt x.author new.author then x ∷ with_column new xs else (if x.author == new.author then new ∷ xs else new ∷ (x ∷ xs))

-- a column of the set has more holes than it may
pub record HasTooManyHoles (set : Versions) : Type 0 where
  pub author : ℕ
  pub author_in : author < AUTHORS
  pub column : Extent
  pub apart : IsRising 0 (edges column)
  pub in_range : column.upto ≤ MAX_COUNTER
  pub means : (c : ℕ) → column_has column c ≡ set (record { author = author; counter = c })
  pub many : MAX_HOLES < length column.holes
