use Rattle.std.specs.Prelude.{◌≤◌, ◌+◌, ℕ, zero, suc, Bool, ◌||◌, nat_lt, if◌then◌else◌, List, [], ◌∷◌, length}
use Rattle.mr_version.specs.Name.{Name}
use Rattle.mr_concise.specs.declared.column.TheConstants.{MAX_HOLES}
use Rattle.mr_concise.specs.declared.vector.AuthorColumn.{AuthorColumn}
use Rattle.mr_concise.specs.Column.{Extent, empty_column, column_has, with_counter}
use Rattle.mr_concise.specs.Vector.{column_of, with_column, IsVectorFrom}
use Rattle.mr_concise.specs.Equal.{vector_eq}
use Rattle.mr_itemset.specs.declared.knowledge.Listed.{Listed}
use Rattle.mr_itemset.specs.Normal.{Normal, IsNormal, vector_of}

-- the column of a set's counters from 1 to n
abbrev pub column_upto : (ℕ → Bool) → ℕ → Extent
column_upto has zero = empty_column
column_upto has (suc n) = if has (suc n) then with_counter (column_upto has n) (suc n) else column_upto has n

-- the column of what one of the two has
abbrev pub both_columns : Extent → Extent → Extent
both_columns a b = column_upto (λ c. column_has a c || column_has b c) (if nat_lt a.upto b.upto then b.upto else a.upto)

-- the vector of what one of the two has
abbrev pub united : List AuthorColumn → List AuthorColumn → List AuthorColumn
united a [] = a
united a (x ∷ xs) = united (with_column (record { author = x.author; column = both_columns (column_of a x.author) x.column }) a) xs

-- the listed items with the added versions, but for those that then have no more than all items have
abbrev pub gained : List AuthorColumn → List AuthorColumn → List Listed → List Listed
gained added all [] = []
gained added all (x ∷ xs) = if vector_eq (united x.vector added) all then gained added all xs else (record { item = x.item; vector = united x.vector added }) ∷ gained added all xs

-- the knowledge with the added versions for all items
unfoldable pub folded : Normal → List AuthorColumn → Normal
folded k added = record { all = united k.all added; listed = gained added (united k.all added) k.listed }

-- no column of a vector has more holes
abbrev pub HasAtMost : ℕ → List AuthorColumn → Type 0
HasAtMost most columns = (q : ℕ) → length (column_of columns q).holes ≤ most

-- no column of an item's vector has more holes
abbrev pub IsSparse : Normal → ℕ → Type 0
IsSparse k most = (i : Name) → HasAtMost most (vector_of k i)

-- What is kept of a knowledge: a part that is settled, and versions of all items that are still to be added to it. The
-- settled part lists no more items than the limit. No item's settled vector has a column of more than so many holes, and
-- with those of the others they are no more than a column may have.
pub record IsKept (limit : ℕ) (settled : Normal) (pending : List AuthorColumn) (most : ℕ) : Type 0 where
  pub normal : IsNormal limit settled
  pub vector_ok : IsVectorFrom 0 pending
  pub few : IsSparse settled most
  pub room : (q : ℕ) → most + length (column_of pending q).holes ≤ MAX_HOLES
