-- knowledge whose last versions for all items are not folded in yet
use Rattle.std.specs.Prelude.{◌≡◌, ◌≤◌, ◌+◌, ℕ, List, length}
use Rattle.mr_concise.specs.declared.column.TheConstants.{MAX_HOLES}
use Rattle.mr_concise.specs.declared.vector.AuthorColumn.{AuthorColumn}
use Rattle.mr_concise.specs.Vector.{column_of, vector_has}
use Rattle.mr_itemset.specs.Normal.{Normal, IsNormal, normal_known}
use Rattle.mr_itemset.specs.ItemForm.{with_all}

-- no author's columns together have more holes than a column may have
abbrev pub Fits : List AuthorColumn → List AuthorColumn → Type 0
Fits a b = (q : ℕ) → length (column_of a q).holes + length (column_of b q).holes ≤ MAX_HOLES

-- the knowledge is what is settled, with the pending versions for all items
pub record IsSplit (limit : ℕ) (k settled : Normal) (pending : List AuthorColumn) : Type 0 where
  pub normal : IsNormal limit k
  pub settled_ok : IsNormal limit settled
  pub known : normal_known k ≡ with_all (normal_known settled) (vector_has pending)
