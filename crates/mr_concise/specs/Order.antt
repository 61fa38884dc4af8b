use Rattle.std.specs.Prelude.{◌≡◌, List}
use Rattle.std.specs.declared.cmp.Ordering.{Ordering}
use Rattle.std.specs.Ordering.{ordering_then, nat_cmp, eq_by_cmp}
use Rattle.std.specs.Cmp.{IsTotalOrder, nat_cmp_total, unsigned_ties, both_tied, on_total, then_total}
use Rattle.std.specs.Cmp.Lexicographic.{slice_cmp, lists_total, lists_ties}
use Rattle.mr_concise.specs.declared.column.Hole.{Hole}
use Rattle.mr_concise.specs.declared.vector.AuthorColumn.{AuthorColumn}
use Rattle.mr_concise.specs.Column.{Extent}
use Rattle.mr_concise.specs.Equal.{hole_eq, extent_eq, author_column_eq, vector_eq}

-- part by part, and of two lists the first part that differs decides
abbrev pub hole_cmp : Hole → Hole → Ordering
hole_cmp a b = ordering_then (nat_cmp a.first b.first) (nat_cmp a.last b.last)

abbrev pub extent_cmp : Extent → Extent → Ordering
extent_cmp a b = ordering_then (nat_cmp a.upto b.upto) (slice_cmp hole_cmp a.holes b.holes)

abbrev pub author_column_cmp : AuthorColumn → AuthorColumn → Ordering
author_column_cmp a b = ordering_then (nat_cmp a.author b.author) (extent_cmp a.column b.column)

abbrev pub vector_cmp : List AuthorColumn → List AuthorColumn → Ordering
vector_cmp = slice_cmp author_column_cmp

-- each of them is a total order
pub holes_total : IsTotalOrder hole_cmp
holes_total = then_total (on_total (λ hole. hole.first) nat_cmp_total) (on_total (λ hole. hole.last) nat_cmp_total)

pub extents_total : IsTotalOrder extent_cmp
extents_total = then_total (on_total (λ column. column.upto) nat_cmp_total) (on_total (λ column. column.holes) (lists_total holes_total))

pub author_columns_total : IsTotalOrder author_column_cmp
author_columns_total = then_total (on_total (λ x. x.author) nat_cmp_total) (on_total (λ x. x.column) extents_total)

pub vectors_total : IsTotalOrder vector_cmp
vectors_total = lists_total author_columns_total

-- each order tells apart what is not equal
pub holes_tied : (a b : Hole) → hole_eq a b ≡ eq_by_cmp hole_cmp a b
holes_tied a b = both_tied _ _ (nat_cmp a.first b.first) (nat_cmp a.last b.last) (unsigned_ties a.first b.first) (unsigned_ties a.last b.last)

pub extents_tied : (a b : Extent) → extent_eq a b ≡ eq_by_cmp extent_cmp a b
extents_tied a b = both_tied _ _ (nat_cmp a.upto b.upto) (slice_cmp hole_cmp a.holes b.holes) (unsigned_ties a.upto b.upto) (lists_ties hole_cmp holes_tied a.holes b.holes)

pub author_columns_tied : (a b : AuthorColumn) → author_column_eq a b ≡ eq_by_cmp author_column_cmp a b
author_columns_tied a b = both_tied _ _ (nat_cmp a.author b.author) (extent_cmp a.column b.column) (unsigned_ties a.author b.author) (extents_tied a.column b.column)

pub vectors_tied : (a b : List AuthorColumn) → vector_eq a b ≡ eq_by_cmp vector_cmp a b
vectors_tied a b = lists_ties author_column_cmp author_columns_tied a b
