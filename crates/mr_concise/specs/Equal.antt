use Rattle.std.specs.Prelude.{Bool, nat_eq, List}
use Rattle.std.specs.Ordering.{on, eq_of_both}
use Rattle.std.specs.Cmp.{IsEquivalence, and_equiv, on_equiv, nat_eq_equiv}
use Rattle.std.specs.Cmp.Lexicographic.{pointwise, lists_equiv}
use Rattle.mr_concise.specs.declared.column.Hole.{Hole}
use Rattle.mr_concise.specs.declared.vector.AuthorColumn.{AuthorColumn}
use Rattle.mr_concise.specs.Column.{Extent}

-- part by part
abbrev pub hole_eq : Hole → Hole → Bool
hole_eq = eq_of_both (on (λ hole. hole.first) nat_eq) (on (λ hole. hole.last) nat_eq)

abbrev pub extent_eq : Extent → Extent → Bool
extent_eq = eq_of_both (on (λ column. column.upto) nat_eq) (on (λ column. column.holes) (pointwise hole_eq))

abbrev pub author_column_eq : AuthorColumn → AuthorColumn → Bool
author_column_eq = eq_of_both (on (λ x. x.author) nat_eq) (on (λ x. x.column) extent_eq)

abbrev pub vector_eq : List AuthorColumn → List AuthorColumn → Bool
vector_eq = pointwise author_column_eq

-- each of them is an equivalence
pub holes_equiv : IsEquivalence hole_eq
holes_equiv = and_equiv (on_equiv (λ hole. hole.first) nat_eq_equiv) (on_equiv (λ hole. hole.last) nat_eq_equiv)

pub extents_equiv : IsEquivalence extent_eq
extents_equiv = and_equiv (on_equiv (λ column. column.upto) nat_eq_equiv) (on_equiv (λ column. column.holes) (lists_equiv holes_equiv))

pub author_columns_equiv : IsEquivalence author_column_eq
author_columns_equiv = and_equiv (on_equiv (λ x. x.author) nat_eq_equiv) (on_equiv (λ x. x.column) extents_equiv)

pub vectors_equiv : IsEquivalence vector_eq
vectors_equiv = lists_equiv author_columns_equiv
