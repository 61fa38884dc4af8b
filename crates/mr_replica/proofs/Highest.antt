-- an author's last counter in a vector, or 0 where it has none, is its column's bound
use Rattle.std.proofs.Common.{◌≡◌, ℕ, List, Option, Some, None, sym, ◌∙◌, inl, inr, arith}
use Rattle.mr_replica.proofs.Names.{AuthorColumn, IsVectorFrom, MatchOption, bound-is_last, cases_lt, column_has-above, column_of, false≢true, unwrap_or}
use Rattle.mr_replica.proofs.Names.{vector_has}
use Rattle.mr_forms.specs.Runs.{HasNoneOf}
use Rattle.mr_concise.specs.Last.{IsLast}

pub last_is_bound : (columns : List AuthorColumn) (q : ℕ) (last : Option ℕ) → IsVectorFrom 0 columns → MatchOption last (HasNoneOf (vector_has columns) q) (IsLast (vector_has columns) q) → unwrap_or last 0 ≡ (column_of columns q).upto
last_is_bound columns q None vector none =
    elim (cases_lt 0 (column_of columns q).upto) [
      | inl some ↦ absurd (false≢true (sym (none (column_of columns q).upto) ∙ (bound-is_last columns q vector (omega arith)).is_in))
      | inr empty ↦ omega arith
    ]
last_is_bound columns q (Some c) vector is =
    elim (cases_lt c (column_of columns q).upto) [
      | inl below ↦ absurd (false≢true (sym (is.above (column_of columns q).upto below) ∙ (bound-is_last columns q vector (omega arith)).is_in))
      | inr up ↦
          elim (cases_lt (column_of columns q).upto c) [
            | inl above ↦ absurd (false≢true (sym (column_has-above (column_of columns q) c above) ∙ is.is_in))
            | inr low ↦ omega arith
          ]
    ]
