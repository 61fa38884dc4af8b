-- vectors of held versions, as they are built run by run
use Rattle.std.specs.Prelude.{◌≡◌, ◌<◌, ◌≤◌, ◌+◌, ◌||◌, ℕ, List, [], ◌∷◌, get_or}
use Rattle.std.specs.List.{AllByRecursion}
use Rattle.mr_version.specs.Name.{Name}
use Rattle.mr_forms.specs.declared.run.Run.{Run}
use Rattle.mr_forms.specs.Runs.{with_run}
use Rattle.mr_forms.specs.Sets.{Versions, IsSame}
use Rattle.mr_concise.specs.declared.vector.AuthorColumn.{AuthorColumn}
use Rattle.mr_concise.specs.declared.column.Hole.{Hole}
use Rattle.mr_concise.specs.Column.{Extent, IsColumn}
use Rattle.mr_concise.specs.Vector.{IsVectorFrom, vector_has}
use Rattle.mr_concise.specs.inner.Vector.{in_column}
use Rattle.mr_madewith.specs.Revision.{Rev}

-- ---- versions in a row

-- the author's version that is so many counters on
abbrev pub counter_on : Name → ℕ → Name
counter_on v by = record { author = v.author; counter = v.counter + by }

-- so many revisions at the front have the author's versions in a row
abbrev pub IsRow : (first : Name) → ℕ → List Rev → Type 0
IsRow first n revisions = (k : ℕ) (d : Rev) → k < n → (get_or revisions k d).version ≡ counter_on first k

-- ---- a vector that grows

-- all columns are of lower authors
abbrev pub AreBelow : (author : ℕ) → List AuthorColumn → Type 0
AreBelow author columns = AllByRecursion (λ (x : AuthorColumn). x.author < author) columns

-- the column with this bound and these holes
abbrev pub extent : ℕ → List Hole → Extent
extent upto holes = record { upto = upto; holes = holes }

-- the columns of lower authors, and one of the last author, which may be empty
pub record IsGrowth (columns : List AuthorColumn) (author : ℕ) (column : Extent) : Type 0 where
  pub columns_ok : IsVectorFrom 0 columns
  pub below : AreBelow author columns
  pub column_ok : IsColumn column

-- what they have together
abbrev pub with_last : List AuthorColumn → (author : ℕ) → Extent → Versions
with_last columns author column v = vector_has columns v || in_column author column v

-- another author's counter is of a higher author than the last, or above that one's column
abbrev pub IsAbove : (author upto : ℕ) → (other counter : ℕ) → Type 0
IsAbove author upto other counter = (author ≤ other) × (author ≡ other → upto < counter)

-- the first version, if there is one, stands above the last column
abbrev pub IsBelowFirst : (author upto : ℕ) → List Name → Type 0
IsBelowFirst author upto [] = Unit {0}
IsBelowFirst author upto (v ∷ vs) = IsAbove author upto v.author v.counter

-- the last column, if it has something, was put behind the others
pub record IsClosed (columns : List AuthorColumn) (author : ℕ) (column : Extent) (closed : List AuthorColumn) : Type 0 where
  pub vector : IsVectorFrom 0 closed
  pub same : IsSame (vector_has closed) (with_last columns author column)
  pub below : AreBelow (author + 1) closed

-- the versions stay the same, with a last column of the run's author, above which the run stands
pub record IsTurned (old : Versions) (run : Run) (columns : List AuthorColumn) (author : ℕ) (column : Extent) : Type 0 where
  pub grown : IsGrowth columns author column
  pub same : IsSame (with_last columns author column) old
  pub author_is : author ≡ run.author
  pub above : column.upto < run.first

-- the versions with a run more, which is the last
pub record IsExtended (old : Versions) (run : Run) (columns : List AuthorColumn) (author : ℕ) (column : Extent) : Type 0 where
  pub grown : IsGrowth columns author column
  pub has : IsSame (with_last columns author column) (with_run old run)
  pub author_is : author ≡ run.author
  pub upto_is : column.upto ≡ run.last
