-- vectors as they grow, a column at a time
use Rattle.std.specs.Prelude.{◌<◌, ◌≤◌, ℕ, ◌==◌, ◌&&◌, List, [], ◌∷◌, All}
use Rattle.mr_forms.specs.Sets.{Versions}
use Rattle.mr_concise.specs.declared.vector.AuthorColumn.{AuthorColumn}
use Rattle.mr_concise.specs.Column.{Extent, column_has, IsColumn, with_counter}
use Rattle.mr_version.specs.declared.author.TheConstants.{AUTHORS}
use Rattle.mr_concise.specs.Vector.{column_of, with_column}

-- the author's column with one counter more
abbrev pub with_one : List AuthorColumn → ℕ → ℕ → AuthorColumn
with_one columns author counter = record { author = author; column = with_counter (column_of columns author) counter }

-- the author's versions that the column has
abbrev pub in_column : ℕ → Extent → Versions
in_column author column v = (v.author == author) && column_has column v.counter

-- none is empty, and each is a column of an author
abbrev pub AreColumns : List AuthorColumn → Type 0
AreColumns xs = All (λ x. (1 ≤ x.column.upto) × IsColumn x.column × (x.author < AUTHORS)) xs

-- the columns with each of these in its author's place, one after the other
abbrev pub with_columns : List AuthorColumn → List AuthorColumn → List AuthorColumn
with_columns [] columns = columns
with_columns (x ∷ xs) columns = with_columns xs (with_column x columns)
