-- worked rows: which counters are told of an item
use Rattle.std.proofs.Common.{arith, inl, inr}
use Rattle.std.proofs.lemmas.Bool.{false≢true, and_right, cases_eq, le-leb, lt-leb}
use Rattle.std.specs.Prelude.{◌≡◌, ◌≤◌, ◌==◌, ◌||◌, ◌&&◌, ℕ, Bool, true, false, nat_le, [], ◌∷◌, refl}
use Rattle.mr_version.specs.Name.{Name}
use Rattle.mr_forms.specs.Sets.{is_listed}
use Rattle.mr_concise.specs.declared.column.Hole.{Hole}
use Rattle.mr_itemset.specs.Told.{is_beyond, IsTold, IsEnough}
use Rattle.mr_itemset.specs.inner.Told.{Skips}

-- the counters from 1 to this one
abbrev upto : ℕ → ℕ → Bool
upto last c = nat_le 1 c && nat_le c last

all_upto : (last n : ℕ) → 1 ≤ n → n ≤ last → upto last n ≡ true
all_upto last n from to = rw (le-leb 1 n from, le-leb n last to) refl

-- ---- an item that has 1 to 4, where all items have 2 and 4

abbrev even : ℕ → Bool
even c = (c == 2) || (c == 4)

pub first_is_beyond : is_beyond even (upto 4) 1 ≡ true
first_is_beyond = refl

pub second_is_not : is_beyond even (upto 4) 2 ≡ false
second_is_not = refl

-- what all items lack is told
pub first_told : IsTold even (upto 4) 1
first_told = record { first = 1; last = 1; above = omega arith; below = omega arith; begins = inl refl; ends = refl; has = λ n from to. all_upto 4 n from (omega arith) }

-- and what is between two such counters, which saves a hole
pub between_told : IsTold even (upto 4) 2
between_told = record { first = 1; last = 3; above = omega arith; below = omega arith; begins = inr refl; ends = refl; has = λ n from to. all_upto 4 n from (omega arith) }

-- but nothing behind the last of them
pub last_untold : ¬ IsTold even (upto 4) 4
last_untold told = elim (cases_eq told.last 4) [
  | inl same ↦ false≢true (rw same at told.ends)
  | inr other ↦ let below = told.below in false≢true (beyond_out told.last (omega arith) told.ends)
]
  where
    beyond_out : (n : ℕ) → 5 ≤ n → is_beyond even (upto 4) n ≡ true → false ≡ true
    beyond_out n past is = rw (lt-leb n 4 (omega arith), and_right (nat_le 1 n) false refl) at is

-- ---- an item that has 1 and 3, where all items have 1

abbrev odd : ℕ → Bool
odd c = (c == 1) || (c == 3)

pub third_told : IsTold (upto 1) odd 3
third_told = record { first = 3; last = 3; above = omega arith; below = omega arith; begins = inr refl; ends = refl; has = λ n from to. let same : n ≡ 3 = omega arith in rw same refl }

-- what is before a hole is not: all items have it
pub first_untold : ¬ IsTold (upto 1) odd 1
first_untold told = elim (cases_eq told.last 1) [
  | inl same ↦ false≢true (rw same at told.ends)
  | inr other ↦ let above = told.above in let below = told.below in false≢true (told.has 2 (omega arith) (omega arith))
]

-- ---- an item that has 1 to 6, where all items have 1 to 4

-- the first counters are told too, so that no hole stands before what all items lack
pub beginning_told : IsTold (upto 4) (upto 6) 2
beginning_told = record { first = 1; last = 6; above = omega arith; below = omega arith; begins = inl refl; ends = refl; has = λ n from to. all_upto 6 n from to }

-- ---- sets that say enough

abbrev version : ℕ → Name
version counter = record { author = 0; counter = counter }

pub nothing_says_too_little : ¬ IsEnough (is_listed []) (is_listed (version 1 ∷ [])) (is_listed [])
nothing_says_too_little enough = false≢true (enough.says (version 1) refl refl)

pub later_says_too_much : ¬ IsEnough (is_listed []) (is_listed (version 1 ∷ [])) (is_listed (version 1 ∷ version 2 ∷ []))
later_says_too_much enough = false≢true (enough.true_of (version 2) refl)

-- ---- holes of a walk

abbrev hole : ℕ → ℕ → Hole
hole first last = record { first = first; last = last }

-- the item lacks 3, so 3 and 4 are a hole before 5
pub skips_a_hole : Skips (upto 2) 3 5 [] (hole 3 4 ∷ [])
skips_a_hole = inr (refl, (3, (omega arith, (omega arith, refl))))

-- it has both, and there is none
pub skips_none : Skips (upto 6) 3 5 [] []
skips_none = inl (refl, λ c from to. all_upto 6 c (omega arith) (omega arith))
