-- worked rows: what the definitions give for small values
use Rattle.std.proofs.Common.{ap, arith}
use Rattle.std.specs.Prelude.{◌≡◌, ℕ, true, false, List, [], ◌∷◌, codes, Some, None, refl}
use Rattle.std.specs.Fmt.{digits}
use Rattle.mr_version.specs.Name.{Name}
use Rattle.mr_forms.specs.declared.fragment.TheConstants.{MAX_ITEMS}
use Rattle.mr_forms.specs.Sets.{Versions, is_listed}
use Rattle.mr_concise.specs.declared.column.Hole.{Hole}
use Rattle.mr_concise.specs.declared.vector.AuthorColumn.{AuthorColumn}
use Rattle.mr_concise.specs.Column.{Extent}
use Rattle.mr_concise.specs.Vector.{vector_has}
use Rattle.mr_itemset.specs.declared.knowledge.Listed.{Listed}
use Rattle.mr_itemset.specs.inner.Each.{with_each}
use Rattle.mr_itemset.specs.inner.Entries.{listed_as}
use Rattle.mr_itemset.specs.Equal.{normal_eq}
use Rattle.mr_itemset.specs.Folded.{both_columns, united, gained, folded}
use Rattle.mr_itemset.specs.Groups.{Alike, takes, all_grouped}
use Rattle.mr_itemset.specs.inner.Groups.{FillInTurn, TakesAt}
use Rattle.mr_itemset.specs.ItemForm.{with_all}
use Rattle.mr_itemset.specs.Normal.{Normal, vector_of, normal_known, IsNormal}
use Rattle.mr_itemset.specs.NormalForm.{is_of}
use Rattle.mr_itemset.specs.Pieces.{AreAllWith, FillsBefore, IsFullBefore, IsPieceOf}
use Rattle.mr_itemset.specs.inner.Placed.{placed}
use Rattle.mr_itemset.specs.Shown.{normal_text}

-- the author's version, or an item by its first version
abbrev name : ℕ → ℕ → Name
name author counter = record { author = author; counter = counter }

abbrev column : ℕ → List Hole → Extent
column upto holes = record { upto = upto; holes = holes }

abbrev of : ℕ → Extent → AuthorColumn
of author extent = record { author = author; column = extent }

-- the counters 1 to the bound of author 0
abbrev first : ℕ → List AuthorColumn
first upto = of 0 (column upto []) ∷ []

abbrev normal : List AuthorColumn → List Listed → Normal
normal all listed = record { all = all; listed = listed }

abbrev alike : List AuthorColumn → List Name → Alike
alike vector items = record { vector = vector; items = items }

-- of all items the first three versions of author 0, of items 1.1 and 1.3 the first five, and of item 1.2 the first six
abbrev known : Normal
known = normal (first 3) (listed_as (name 1 1) (first 5) ∷ listed_as (name 1 2) (first 6) ∷ listed_as (name 1 3) (first 5) ∷ [])

-- ---- what is known

-- a listed item has its own vector, and each other one that of all items
pub own_vector : vector_of known (name 1 2) ≡ first 6
own_vector = refl

pub vector_of_all : vector_of known (name 9 9) ≡ first 3
vector_of_all = refl

pub known_beyond_all : normal_known known (name 1 1) (name 0 4) ≡ true
known_beyond_all = refl

pub unknown_for_unlisted : normal_known known (name 1 4) (name 0 4) ≡ false
unknown_for_unlisted = refl

pub known_for_unlisted : normal_known known (name 1 4) (name 0 3) ≡ true
known_for_unlisted = refl

-- an item of which no more is known than of all is not listed
pub listed_without_more : ¬ IsNormal 2 (normal (first 3) (listed_as (name 1 1) (first 3) ∷ []))
listed_without_more is = (is.more 0 (listed_as (name 1 1) (first 3)) (omega arith)).more (λ v. refl)

-- a knowledge is equal to another only where each listed item is
pub unlisted_differs : normal_eq known (normal (first 3) []) ≡ false
unlisted_differs = refl

-- ---- listed items

-- an item takes its place among those that are listed
pub in_between : placed (listed_as (name 1 2) (first 6)) (listed_as (name 1 1) (first 5) ∷ listed_as (name 1 3) (first 5) ∷ [])
    ≡ listed_as (name 1 1) (first 5) ∷ listed_as (name 1 2) (first 6) ∷ listed_as (name 1 3) (first 5) ∷ []
in_between = refl

-- and replaces itself
pub replaced : placed (listed_as (name 1 1) (first 6)) (listed_as (name 1 1) (first 5) ∷ listed_as (name 1 3) (first 5) ∷ [])
    ≡ listed_as (name 1 1) (first 6) ∷ listed_as (name 1 3) (first 5) ∷ []
replaced = refl

pub at_end : placed (listed_as (name 2 1) (first 6)) (listed_as (name 1 3) (first 5) ∷ []) ≡ listed_as (name 1 3) (first 5) ∷ listed_as (name 2 1) (first 6) ∷ []
at_end = refl

-- ---- what is learned

-- versions that are learned for some items are not known for others
pub learned_for_last : with_each (normal_known known) (name 1 2 ∷ name 1 4 ∷ []) (is_listed (name 2 1 ∷ [])) (name 1 4) (name 2 1) ≡ true
learned_for_last = refl

pub not_learned : with_each (normal_known known) (name 1 2 ∷ name 1 4 ∷ []) (is_listed (name 2 1 ∷ [])) (name 1 3) (name 2 1) ≡ false
not_learned = refl

-- versions of all items are known for one that nobody has named
pub learned_for_all : with_all (normal_known known) (is_listed (name 2 1 ∷ [])) (name 9 9) (name 2 1) ≡ true
learned_for_all = refl

-- a column fills the holes of the other
pub fills_hole : both_columns (column 9 (record { first = 2; last = 2 } ∷ record { first = 5; last = 7 } ∷ [])) (column 3 []) ≡ column 9 (record { first = 5; last = 7 } ∷ [])
fills_hole = refl

-- what neither has stays a hole, though the one column has its bound below it
pub hole_stays : both_columns (column 3 []) (column 6 (record { first = 1; last = 5 } ∷ [])) ≡ column 6 (record { first = 4; last = 5 } ∷ [])
hole_stays = refl

-- columns of different authors stand beside each other
pub united_authors : united (first 3) (of 2 (column 1 []) ∷ []) ≡ of 0 (column 3 []) ∷ of 2 (column 1 []) ∷ []
united_authors = refl

-- an item that then has no more than all items is listed no longer
pub listed_no_longer : gained (first 5) (first 5) known.listed ≡ listed_as (name 1 2) (first 6) ∷ []
listed_no_longer = refl

pub folded_five : folded known (first 5) ≡ normal (first 5) (listed_as (name 1 2) (first 6) ∷ [])
unfolding folded
folded_five = refl

-- and each other one gains the versions too
pub folded_other : folded known (of 2 (column 1 []) ∷ []) ≡ normal (of 0 (column 3 []) ∷ of 2 (column 1 []) ∷ [])
    (listed_as (name 1 1) (of 0 (column 5 []) ∷ of 2 (column 1 []) ∷ [])
    ∷ listed_as (name 1 2) (of 0 (column 6 []) ∷ of 2 (column 1 []) ∷ [])
    ∷ listed_as (name 1 3) (of 0 (column 5 []) ∷ of 2 (column 1 []) ∷ []) ∷ [])
unfolding folded
folded_other = refl

-- ---- groups and texts

-- items with one vector are one group, which stands where the first of them does
pub groups : all_grouped MAX_ITEMS [] known.listed ≡ alike (first 5) (name 1 1 ∷ name 1 3 ∷ []) ∷ alike (first 6) (name 1 2 ∷ []) ∷ []
groups = refl

-- of two items at most a group with one takes another of its vector, but of no other
pub takes_second : takes 2 (alike (first 5) (name 1 1 ∷ [])) (first 5) ≡ true
takes_second = refl

pub takes_no_other : takes 2 (alike (first 5) (name 1 1 ∷ [])) (first 6) ≡ false
takes_no_other = refl

pub takes_no_third : takes 2 (alike (first 5) (name 1 1 ∷ name 1 3 ∷ [])) (first 5) ≡ false
takes_no_third = refl

-- so a third item begins a new group, behind all others
abbrev in_twos : List Alike
in_twos = all_grouped 2 [] (listed_as (name 1 1) (first 5) ∷ listed_as (name 1 2) (first 6) ∷ listed_as (name 1 3) (first 5) ∷ listed_as (name 1 4) (first 5) ∷ [])

pub begins_anew : in_twos ≡ alike (first 5) (name 1 1 ∷ name 1 3 ∷ []) ∷ alike (first 6) (name 1 2 ∷ []) ∷ alike (first 5) (name 1 4 ∷ []) ∷ []
begins_anew = refl

-- the first group takes a third item of its vector, and the second one none of it
pub takes_at_first : TakesAt (all_grouped MAX_ITEMS [] known.listed) (first 5) 0
takes_at_first = (omega arith, λ d. refl)

pub takes_not_at_second : ¬ TakesAt (all_grouped MAX_ITEMS [] known.listed) (first 5) 1
takes_not_at_second there = let takes = there.1 (alike [] []) in cc

-- no group comes before one with its vector that still takes items
pub half_full_before : ¬ FillInTurn 2 (alike (first 5) (name 1 1 ∷ []) ∷ alike (first 5) (name 1 3 ∷ []) ∷ [])
half_full_before turn = turn 0 1 (alike [] []) (omega arith) (omega arith) refl (omega arith)

-- ---- pieces of two items

abbrev three : List Name
three = name 1 1 ∷ name 1 3 ∷ name 1 4 ∷ []

pub first_two : IsPieceOf 2 three (name 1 1 ∷ name 1 3 ∷ [])
first_two = (0, refl)

pub what_is_left : IsPieceOf 2 three (name 1 4 ∷ [])
what_is_left = (1, refl)

pub nothing_behind : IsPieceOf 2 three []
nothing_behind = (2, refl)

-- of two parts with the same versions the first has two items, and they are the lower ones
pub too_few : ¬ FillsBefore 2 (name 1 1 ∷ []) (name 1 3 ∷ [])
too_few fills = let full = fills.full in omega arith

pub not_lower : ¬ FillsBefore 2 (name 1 1 ∷ name 1 4 ∷ []) (name 1 3 ∷ [])
not_lower fills = let lower = fills.below (name 1 4) (name 1 3) refl refl in cc

pub all_items_fill_none : ¬ IsFullBefore 2 None (Some (name 1 1 ∷ []))
all_items_fill_none fills = fills

-- items of which just these versions are known are all of them, and no others
pub one_is_missing : ¬ AreAllWith (normal_known known) (vector_has (first 5)) (name 1 1 ∷ [])
one_is_missing are = let among = (are.all (name 1 3)).1 refl in cc

pub other_versions : ¬ AreAllWith (normal_known known) (vector_has (first 5)) (name 1 1 ∷ name 1 2 ∷ name 1 3 ∷ [])
other_versions are = let same = ap (λ (s : Versions). s (name 0 6)) ((are.all (name 1 2)).0 refl) in cc

-- all items come first, and then each group of items with its vector
pub text : normal_text known ≡ codes "all 0:3; 1.1,1.3 0:5; 1.2 0:6"
unfolding digits
text = refl

-- where nothing is known, the fragment of all items stands with a hyphen for its vector
pub text_of_nothing : normal_text (normal [] []) ≡ codes "all -"
text_of_nothing = refl

-- all items are also those that nobody has named, and listed ones are themselves alone
pub each_is_of_all : is_of None (name 9 9) ≡ true
each_is_of_all = refl

pub unlisted_is_out : is_of (Some (name 1 1 ∷ name 1 3 ∷ [])) (name 1 2) ≡ false
unlisted_is_out = refl
