-- worked rows: what the definitions give for small values
use Rattle.std.proofs.Common.{arith}
use Rattle.std.proofs.lemmas.Bool.{false≢true}
use Rattle.std.specs.Prelude.{◌≡◌, ◌<◌, ◌≤◌, ℕ, Bool, true, false, List, [], ◌∷◌, codes, Some, None, refl}
use Rattle.std.specs.Fmt.{digits}
use Rattle.std.specs.declared.cmp.Ordering.TheVariants.{Less, Greater}
use Rattle.mr_forms.specs.declared.fragment.ItemSet.TheVariants.{All}
use Rattle.mr_concise.specs.declared.column.Hole.{Hole}
use Rattle.mr_concise.specs.declared.vector.AuthorColumn.{AuthorColumn}
use Rattle.mr_concise.specs.AnyOf.{lower_of}
use Rattle.mr_concise.specs.inner.Edges.{is_on}
use Rattle.mr_concise.specs.Column.{Extent, column_has, edges, gap, empty_column, with_counter, IsColumn}
use Rattle.mr_concise.specs.Equal.{vector_eq}
use Rattle.mr_concise.specs.Fragments.{ConciseFragment, knowledge_text}
use Rattle.mr_concise.specs.inner.Next.{IsGapFrom}
use Rattle.mr_concise.specs.Order.{vector_cmp}
use Rattle.mr_concise.specs.Source.{HasFewerHoles, HasAtLeastHoles}
use Rattle.mr_concise.specs.Text.{column_text, vector_text}
use Rattle.mr_concise.specs.Vector.{column_of, vector_has, with_column, IsVectorFrom}
use Rattle.mr_concise.specs.inner.Vector.{with_one}

abbrev hole : ℕ → ℕ → Hole
hole first last = record { first = first; last = last }

abbrev column : ℕ → List Hole → Extent
column upto holes = record { upto = upto; holes = holes }

abbrev of : ℕ → Extent → AuthorColumn
of author extent = record { author = author; column = extent }

-- the counters 1, 3, 4, 8 and 9
abbrev holey : Extent
holey = column 9 (hole 2 2 ∷ hole 5 7 ∷ [])

-- ---- what a column has

-- a column has its bound, and nothing above it
pub has_bound : column_has holey 9 ≡ true
has_bound = refl

pub not_above : column_has holey 10 ≡ false
not_above = refl

-- there is no counter 0, in no hole either
pub not_zero : column_has holey 0 ≡ false
not_zero = refl

-- a hole lacks its first counter and its last one, and not those beside it
pub not_first_of_hole : column_has holey 5 ≡ false
not_first_of_hole = refl

pub not_last_of_hole : column_has holey 7 ≡ false
not_last_of_hole = refl

pub before_hole : column_has holey 4 ≡ true
before_hole = refl

pub after_hole : column_has holey 8 ≡ true
after_hole = refl

-- the edges are where holes begin and where counters begin again, and one past the bound
pub edges_of : edges holey ≡ 2 ∷ 3 ∷ 5 ∷ 8 ∷ 10 ∷ []
edges_of = refl

pub edges_of_none : edges empty_column ≡ 1 ∷ []
edges_of_none = refl

-- an edge is the first that has turned
pub turned_at_edge : is_on true (2 ∷ 3 ∷ []) 2 ≡ false
turned_at_edge = refl

pub turned_back : is_on true (2 ∷ 3 ∷ []) 3 ≡ true
turned_back = refl

-- ---- what is a column

pub holey_is_column : IsColumn holey
holey_is_column = record { apart = (omega arith, (omega arith, (omega arith, (omega arith, (omega arith, tt))))); in_range = omega arith; few = omega arith }

-- two holes that touch would be one
pub touching_holes : ¬ IsColumn (column 9 (hole 2 4 ∷ hole 5 7 ∷ []))
touching_holes is = let wrong : 5 < 5 = is.apart.1.1.0 in absurd (omega arith)

-- the bound is in no hole
pub bound_in_hole : ¬ IsColumn (column 7 (hole 5 7 ∷ []))
bound_in_hole is = let wrong : 8 < 8 = is.apart.1.1.0 in absurd (omega arith)

-- ---- how many holes a column has

-- with two holes it has fewer than three
pub fewer_than_three : HasFewerHoles (column_has holey) 3
fewer_than_three = record { column = holey; is = record { apart = holey_is_column.apart; in_range = holey_is_column.in_range; means = λ c. refl }; fewer = omega arith }

-- but not three, and so not fewer than two
pub not_at_least_three : ¬ HasAtLeastHoles (column_has holey) 3
not_at_least_three least = let wrong : 3 ≤ 2 = least holey (record { apart = holey_is_column.apart; in_range = holey_is_column.in_range; means = λ c. refl }) in absurd (omega arith)

-- nothing has fewer holes than none
pub none_is_fewest : (has : ℕ → Bool) → ¬ HasFewerHoles has 0
none_is_fewest has fewer = let wrong = fewer.fewer in absurd (omega arith)

-- ---- the first gap from a counter on

-- a hole of one counter, from that counter on
pub gap_of_one : IsGapFrom (column_has (column 6 (hole 5 5 ∷ []))) 5 (hole 5 5)
gap_of_one = record {
  begins = record { above = omega arith; is_out = refl; between = λ c f l. absurd (omega arith) };
  ordered = omega arith;
  inside = λ c f l. let e : c ≡ 5 = omega arith in rw e refl;
  after = λ _. refl;
}

-- it begins with the first counter that is not there
pub gap_begins_late : ¬ IsGapFrom (column_has holey) 3 (hole 6 7)
gap_begins_late gap = false≢true (gap.begins.between 5 (omega arith) (omega arith))

-- and goes on to the last one
pub gap_ends_early : ¬ IsGapFrom (column_has holey) 3 (hole 5 6)
gap_ends_early gap = false≢true (gap.after (omega arith))

-- ---- one counter more

-- the counter right behind the bound leaves no hole
pub right_behind : with_counter (column 3 []) 4 ≡ column 4 []
right_behind = refl

-- what is passed over becomes a hole
pub passed_over : with_counter (column 3 []) 6 ≡ column 6 (hole 4 5 ∷ [])
passed_over = refl

pub passed_over_one : with_counter (column 3 (hole 2 2 ∷ [])) 5 ≡ column 5 (hole 2 2 ∷ hole 4 4 ∷ [])
passed_over_one = refl

-- the first counter of a column
pub first_counter : with_counter empty_column 1 ≡ column 1 []
first_counter = refl

pub first_is_third : with_counter empty_column 3 ≡ column 3 (hole 1 2 ∷ [])
first_is_third = refl

-- a counter in the middle splits a hole
pub splits : with_counter holey 6 ≡ column 9 (hole 2 2 ∷ hole 5 5 ∷ hole 7 7 ∷ [])
splits = refl

-- one at an edge shortens it
pub shortens_front : with_counter holey 5 ≡ column 9 (hole 2 2 ∷ hole 6 7 ∷ [])
shortens_front = refl

pub shortens_back : with_counter holey 7 ≡ column 9 (hole 2 2 ∷ hole 5 6 ∷ [])
shortens_back = refl

-- a hole of one counter goes
pub fills : with_counter holey 2 ≡ column 9 (hole 5 7 ∷ [])
fills = refl

-- a counter that is there changes nothing
pub already_there : with_counter holey 4 ≡ holey
already_there = refl

pub bound_already_there : with_counter holey 9 ≡ holey
bound_already_there = refl

-- no hole goes from a counter to a lower one
pub no_gap : gap 5 4 ≡ []
no_gap = refl

-- ---- vectors

-- an author without a column has nothing
pub no_column : column_of (of 0 holey ∷ of 3 (column 1 []) ∷ []) 2 ≡ empty_column
no_column = refl

pub other_authors : vector_has (of 0 holey ∷ of 3 (column 1 []) ∷ []) (record { author = 3; counter = 3 }) ≡ false
other_authors = refl

pub own_column : vector_has (of 0 holey ∷ of 3 (column 1 []) ∷ []) (record { author = 0; counter = 3 }) ≡ true
own_column = refl

-- a column takes its author's place, by rising authors
pub in_between : with_column (of 2 holey) (of 0 (column 1 []) ∷ of 3 (column 1 []) ∷ []) ≡ of 0 (column 1 []) ∷ of 2 holey ∷ of 3 (column 1 []) ∷ []
in_between = refl

-- and replaces the one that was there
pub replaced : with_column (of 3 holey) (of 0 (column 1 []) ∷ of 3 (column 1 []) ∷ []) ≡ of 0 (column 1 []) ∷ of 3 holey ∷ []
replaced = refl

-- a first version of an author begins its column
pub begins_column : with_one (of 0 holey ∷ []) 1 2 ≡ of 1 (column 2 (hole 1 1 ∷ []))
begins_column = refl

-- an empty column stands in no vector
pub empty_column_out : ¬ IsVectorFrom 0 (of 0 empty_column ∷ [])
empty_column_out is = let wrong : 1 ≤ 0 = is.1 in absurd (omega arith)

-- nor do two columns of one author
pub author_twice : ¬ IsVectorFrom 0 (of 4 (column 1 []) ∷ of 4 (column 2 []) ∷ [])
author_twice is = let wrong : 5 ≤ 4 = is.3.0 in absurd (omega arith)

-- ---- the lower of two ends

pub lower_end : lower_of (Some 5) (Some 3) ≡ Some 3
lower_end = refl

-- where one is missing it is the other
pub only_first : lower_of (Some 5) None ≡ Some 5
only_first = refl

pub only_second : lower_of None (Some 3) ≡ Some 3
only_second = refl

-- ---- texts

-- the author, the bound, and each hole, where one of one counter is its number alone
pub holey_text : column_text (of 0 holey) ≡ codes "0:9!2!5..7"
unfolding digits
holey_text = refl

-- columns stand behind each other with no space
pub two_columns_text : vector_text (of 3 (column 20 []) ∷ of 10 (column 3 (hole 1 2 ∷ [])) ∷ []) ≡ codes "3:20,10:3!1..2"
unfolding digits
two_columns_text = refl

-- the vector of nothing
pub empty_vector_text : vector_text [] ≡ codes "-"
empty_vector_text = refl

abbrev of_all : List AuthorColumn → ConciseFragment
of_all vector = record { items = All; vector = vector }

-- no fragment is a hyphen alone, and one with an empty vector says for which items
pub no_fragment_text : knowledge_text [] ≡ codes "-"
no_fragment_text = refl

pub empty_fragment_text : knowledge_text (of_all [] ∷ []) ≡ codes "all -"
empty_fragment_text = refl

-- fragments have a semicolon and a space between them
pub two_fragments_text : knowledge_text (of_all (of 0 (column 2 []) ∷ []) ∷ of_all [] ∷ []) ≡ codes "all 0:2; all -"
unfolding digits
two_fragments_text = refl

-- ---- the order of vectors

-- a vector stands before each longer one that begins with it
pub shorter_first : vector_cmp (of 0 holey ∷ []) (of 0 holey ∷ of 3 (column 1 []) ∷ []) ≡ Less
shorter_first = refl

-- the first column that differs decides: the lower author first, whatever it has
pub author_first : vector_cmp (of 0 (column 9 []) ∷ []) (of 1 (column 1 []) ∷ []) ≡ Less
author_first = refl

-- then the lower bound
pub bound_next : vector_cmp (of 0 (column 10 []) ∷ []) (of 0 holey ∷ of 3 (column 1 []) ∷ []) ≡ Greater
bound_next = refl

-- then the holes: a column with none stands before one of the same bound, though it has more
pub holes_last : vector_cmp (of 0 (column 9 []) ∷ []) (of 0 holey ∷ []) ≡ Less
holes_last = refl

-- vectors that differ in one hole's end are not equal
pub hole_differs : vector_eq (of 0 holey ∷ []) (of 0 (column 9 (hole 2 2 ∷ hole 5 6 ∷ [])) ∷ []) ≡ false
hole_differs = refl
