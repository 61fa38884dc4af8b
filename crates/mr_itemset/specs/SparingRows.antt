-- worked rows: which versions go to all items
use Rattle.std.specs.Prelude.{◌≡◌, ◌+◌, ◌==◌, ◌||◌, ℕ, zero, suc, true, false, List, [], ◌∷◌, refl}
use Rattle.mr_version.specs.Name.{Name}
use Rattle.mr_forms.specs.Sets.{is_listed}
use Rattle.mr_concise.specs.declared.column.Hole.{Hole}
use Rattle.mr_itemset.specs.declared.rule.TheConstants.{SPARED_HOLES}
use Rattle.mr_itemset.specs.declared.sparing.TheConstants.{MAX_LISTED_ITEMS}
use Rattle.mr_itemset.specs.Normal.{Normal}
use Rattle.mr_itemset.specs.Sparing.{before, holes_among, holes_for_all, goes_to_all, comes_next, spreads, sparing_form}

-- the author's version, or an item by its first version
abbrev name : ℕ → ℕ → Name
name author counter = record { author = author; counter = counter }

-- so many holes of one counter each, with one that is known between two of them
abbrev holes_from : ℕ → ℕ → List Hole
holes_from first zero = []
holes_from first (suc n) = (record { first = first; last = first }) ∷ holes_from (first + 2) n

-- what is known for all: author 0 up to its version 40, but for so many holes
abbrev with_holes : ℕ → Normal
with_holes n = record { all = (record { author = 0; column = record { upto = 40; holes = holes_from 2 n } }) ∷ []; listed = [] }

-- ---- the limits

pub spared_holes : SPARED_HOLES ≡ 16
spared_holes = refl

pub max_listed_items : MAX_LISTED_ITEMS ≡ 1048576
max_listed_items = refl

-- ---- holes

-- what is missing before the first counter is a hole, and so is what is missing between two, however long
pub two_holes : holes_among (λ c. (c == 3) || (c == 9)) 9 ≡ 2
two_holes = refl

-- counters in a row have none between them
pub no_hole : holes_among (λ c. (c == 1) || ((c == 2) || (c == 3))) 3 ≡ 0
no_hole = refl

-- nor is what is missing behind the last one a hole
pub none_behind : holes_among (λ c. (c == 1) || (c == 4)) 9 ≡ 1
none_behind = refl

-- a column has the holes that it lists
pub as_listed : holes_for_all (with_holes 19) 0 ≡ 19
as_listed = refl

-- A value that no call makes: it lists one hole twice, and another behind its last counter. Only the one that its versions
-- leave counts.
pub as_known : holes_for_all (record { all = (record { author = 0; column = record { upto = 5; holes = (record { first = 2; last = 3 }) ∷ (record { first = 2; last = 3 }) ∷ (record { first = 5; last = 7 }) ∷ [] } }) ∷ []; listed = [] }) 0 ≡ 1
as_known = refl

-- ---- versions by themselves

pub version_before : before (name 0 41) ≡ name 0 40
version_before = refl

-- an author's first version goes to all, whatever is known
pub first_goes : goes_to_all (with_holes 19) (name 0 1) ≡ true
first_goes = refl

-- so does one right behind what all know
pub next_goes : goes_to_all (with_holes 19) (name 0 41) ≡ true
next_goes = refl

-- and one that fills the hole behind a version that all know
pub filler_goes : goes_to_all (with_holes 19) (name 0 4) ≡ true
filler_goes = refl

-- a version behind a gap goes to all where 15 holes are there before it
pub past_gap : goes_to_all (with_holes 15) (name 0 42) ≡ true
past_gap = refl

-- and stays with its item where 16 are
pub past_gap_too_many : goes_to_all (with_holes 16) (name 0 42) ≡ false
past_gap_too_many = refl

-- the holes of one author don't count for another
pub other_author : goes_to_all (with_holes 16) (name 1 7) ≡ true
other_author = refl

-- ---- versions that come with a set below them

pub follows : comes_next (name 0 41) (name 0 42) ≡ true
follows = refl

pub follows_no_other : comes_next (name 1 41) (name 0 42) ≡ false
follows_no_other = refl

pub follows_no_later : comes_next (name 0 41) (name 0 43) ≡ false
follows_no_later = refl

-- right behind the item's first version, which is below it and goes to all, a version goes to all too
pub behind_first : spreads (with_holes 16) (name 0 41) (name 0 42) (is_listed (name 0 41 ∷ [])) ≡ true
behind_first = refl

-- and takes that one along
pub first_along : sparing_form.firsts_for_all (with_holes 16) (name 0 41) (name 0 42) (is_listed (name 0 41 ∷ [])) ≡ true
first_along = refl

-- but not where the set lacks the first version
pub first_unseen : spreads (with_holes 16) (name 0 41) (name 0 42) (is_listed []) ≡ false
first_unseen = refl

-- nor where the first version would stay with its item
pub behind_listed : spreads (with_holes 16) (name 0 42) (name 0 43) (is_listed (name 0 42 ∷ [])) ≡ false
behind_listed = refl

-- a version that goes to all by itself leaves a first version behind that doesn't
pub first_stays : sparing_form.firsts_for_all (with_holes 16) (name 0 42) (name 0 41) (is_listed (name 0 42 ∷ [])) ≡ false
first_stays = refl
