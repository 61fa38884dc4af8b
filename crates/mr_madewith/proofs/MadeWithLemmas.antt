-- a set has one list of columns
use Rattle.std.proofs.Common.{◌≡◌, ℕ, sym, ◌∙◌, List}
use Rattle.mr_forms.specs.Sets.{Versions}
use Rattle.mr_concise.specs.declared.vector.AuthorColumn.{AuthorColumn}
use Rattle.mr_concise.specs.Vector.{column_of}
use Rattle.mr_concise.proofs.ColumnLemmas.{column_unique}
use Rattle.mr_concise.proofs.UnionLemmas.{column_of-IsColumn}
use Rattle.mr_concise.proofs.VectorLemmas.{vector_unique}
use Rattle.mr_madewith.specs.MadeWith.{AreColumnsOf}

-- two lists of columns that have one set are one
pub columns_unique : (set : Versions) (a b : List AuthorColumn) → AreColumnsOf set a → AreColumnsOf set b → a ≡ b
columns_unique set a b x y = vector_unique 0 0 a b x.vector y.vector same
  where
    same : (q : ℕ) → column_of a q ≡ column_of b q
    same q = column_unique (column_of a q) (column_of b q) (column_of-IsColumn 0 a q x.vector).apart (column_of-IsColumn 0 b q y.vector).apart
        (λ c. x.same (record { author = q; counter = c }) ∙ sym (y.same (record { author = q; counter = c })))
