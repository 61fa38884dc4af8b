-- worked rows: what the definitions give for small values
use Rattle.std.proofs.Common.{inl, inr, arith}
use Rattle.std.specs.Prelude.{◌≡◌, ◌<◌, ℕ, true, false, List, [], ◌∷◌, Some, None, refl}
use Rattle.std.specs.declared.cmp.Ordering.TheVariants.{Less, Greater}
use Rattle.mr_version.specs.Name.{Name, name_cmp}
use Rattle.mr_forms.specs.declared.run.Run.{Run}
use Rattle.mr_forms.specs.declared.fragment.ItemSet.TheVariants.{All}
use Rattle.mr_forms.specs.declared.fragment.Fragment.{Fragment}
use Rattle.mr_forms.specs.inner.Additions.{taken_back}
use Rattle.mr_forms.specs.Covered.{has_item, all_covered}
use Rattle.mr_forms.specs.Known.{with_learned, with_below}
use Rattle.mr_forms.specs.Parts.{ComesFirst}
use Rattle.mr_forms.specs.PlainPair.{PlainKnown, pair, pair_cmp}
use Rattle.mr_forms.specs.Plain.{plain_known, beyond_all, had_for_all, had_by_item}
use Rattle.mr_forms.specs.Runs.{in_run, in_runs, StandsBefore}
use Rattle.mr_forms.specs.Sets.{is_listed}

-- the author's version, or an item by its first version
abbrev name : ℕ → ℕ → Name
name author counter = record { author = author; counter = counter }

-- versions 1 and 2 of author 3
abbrev one_two : Run
one_two = record { author = 3; first = 1; last = 2; from_one = omega arith; ordered = omega arith; in_range = omega arith }

-- versions 1 to 3 of author 3
abbrev one_three : Run
one_three = record { author = 3; first = 1; last = 3; from_one = omega arith; ordered = omega arith; in_range = omega arith }

-- versions 4 to 6 of author 3
abbrev four_six : Run
four_six = record { author = 3; first = 4; last = 6; from_one = omega arith; ordered = omega arith; in_range = omega arith }

-- version 1 of author 4
abbrev of_four : Run
of_four = record { author = 4; first = 1; last = 1; from_one = omega arith; ordered = omega arith; in_range = omega arith }

-- ---- runs

-- a run has its first version and its last, and no other author's
pub first_of_run : in_run four_six (name 3 4) ≡ true
first_of_run = refl

pub last_of_run : in_run four_six (name 3 6) ≡ true
last_of_run = refl

pub past_run : in_run four_six (name 3 7) ≡ false
past_run = refl

pub other_author : in_run four_six (name 4 5) ≡ false
other_author = refl

-- what is between two runs is in neither
pub between_runs : in_runs (one_two ∷ four_six ∷ []) (name 3 3) ≡ false
between_runs = refl

pub in_second_run : in_runs (one_two ∷ four_six ∷ []) (name 3 5) ≡ true
in_second_run = refl

-- one version between two runs is enough to part them
pub parted : StandsBefore one_two four_six
parted = inr (refl, omega arith)

-- runs that touch would be one
pub touching : ¬ StandsBefore one_three four_six
touching before = elim before [ inl lower ↦ (let wrong : 3 < 3 = lower in absurd (omega arith)) | inr later ↦ (let wrong : 4 < 4 = later.1 in absurd (omega arith)) ]

-- a lower author's run stands before, whatever its counters are
pub lower_author_first : StandsBefore four_six of_four
lower_author_first = inl (omega arith)

-- ---- what is known, one by one

-- of all items version 1 of author 0, and of item 1.1 versions 0.1 and 2.5
abbrev known : PlainKnown
known = record { for_all = name 0 1 ∷ []; pairs = pair (name 1 1) (name 0 1) ∷ pair (name 1 1) (name 2 5) ∷ [] }

-- what is known for all items is known for one that is named nowhere
pub known_for_all : plain_known known (name 9 9) (name 0 1) ≡ true
known_for_all = refl

-- a pair is known for its own item
pub known_for_item : plain_known known (name 1 1) (name 2 5) ≡ true
known_for_item = refl

pub unknown_for_other : plain_known known (name 1 2) (name 2 5) ≡ false
unknown_for_other = refl

-- and is no pair the other way round
pub unknown_turned : plain_known known (name 2 5) (name 1 1) ≡ false
unknown_turned = refl

-- a counter stands for itself alone, and not for those below it
pub unknown_below : plain_known known (name 1 1) (name 2 4) ≡ false
unknown_below = refl

-- a pair whose version is known for all items is not beyond these
pub not_beyond : beyond_all known (name 1 1) (name 0 1) ≡ false
not_beyond = refl

pub beyond : beyond_all known (name 1 1) (name 2 5) ≡ true
beyond = refl

-- pairs stand by their items first, and then by their versions
pub item_first : pair_cmp (pair (name 1 1) (name 9 9)) (pair (name 1 2) (name 0 1)) ≡ Less
item_first = refl

pub version_next : pair_cmp (pair (name 1 1) (name 2 5)) (pair (name 1 1) (name 0 1)) ≡ Greater
version_next = refl

-- ---- what is learned

-- a version that is learned for its item alone is not known for others
pub learned_for_item : with_learned false (plain_known known) (name 1 2) (name 4 1) (name 1 2) (name 4 1) ≡ true
learned_for_item = refl

pub not_learned_for_other : with_learned false (plain_known known) (name 1 2) (name 4 1) (name 1 1) (name 4 1) ≡ false
not_learned_for_other = refl

-- and where it is learned for all, it is
pub learned_for_other : with_learned true (plain_known known) (name 1 2) (name 4 1) (name 1 1) (name 4 1) ≡ true
learned_for_other = refl

-- what was known stays
pub stays_known : with_learned false (plain_known known) (name 1 2) (name 4 1) (name 1 1) (name 2 5) ≡ true
stays_known = refl

-- the versions of a set are learned for the item alone
pub below_for_item : with_below (plain_known known) (name 1 2) (is_listed (name 4 1 ∷ name 4 2 ∷ [])) (name 1 2) (name 4 2) ≡ true
below_for_item = refl

pub not_below_for_other : with_below (plain_known known) (name 1 2) (is_listed (name 4 1 ∷ name 4 2 ∷ [])) (name 1 1) (name 4 2) ≡ false
not_below_for_other = refl

-- keys that were added go again, and the others stay
pub added_go : taken_back name_cmp (name 0 2 ∷ name 3 1 ∷ []) (name 0 1 ∷ name 0 2 ∷ name 2 5 ∷ name 3 1 ∷ []) ≡ name 0 1 ∷ name 2 5 ∷ []
added_go = refl

-- ---- fragments and their order

-- all items are also those that nobody has named
pub has_each_item : has_item All (name 9 9) ≡ true
has_each_item = refl

abbrev of_all : List Name → Fragment (List Name)
of_all versions = record { items = All; vector = versions }

-- a fragment of all items says what is known for all, and nothing by item
pub said_for_all : had_for_all (of_all (name 0 1 ∷ []) ∷ []) (name 0 1) ≡ true
said_for_all = refl

pub not_said_by_item : had_by_item (of_all (name 0 1 ∷ []) ∷ []) (name 1 1) (name 0 1) ≡ false
not_said_by_item = refl

-- it covers its versions alone
pub covers_versions : all_covered is_listed (of_all (name 0 1 ∷ []) ∷ []) (name 1 1) (name 0 1) ≡ true
covers_versions = refl

pub covers_no_other : all_covered is_listed (of_all (name 0 1 ∷ []) ∷ []) (name 1 1) (name 0 2) ≡ false
covers_no_other = refl

-- all items come first, and then those with the lower first item, however many they are
pub all_first : ComesFirst None (Some (name 0 1 ∷ []))
all_first = tt

pub not_all_last : ¬ ComesFirst (Some (name 0 1 ∷ [])) None
not_all_last first = first

pub not_all_twice : ¬ ComesFirst None None
not_all_twice first = first

pub lower_first_item : ComesFirst (Some (name 0 1 ∷ name 5 1 ∷ [])) (Some (name 0 2 ∷ []))
lower_first_item = refl
