-- the next hole, and the next gap
use Rattle.std.specs.Prelude.{◌≡◌, ◌<◌, ◌≤◌, ◌+◌, ℕ, Bool, true, false, nat_le}
use Rattle.mr_concise.specs.declared.column.Hole.{Hole}
use Rattle.mr_concise.specs.declared.column.TheConstants.{COUNTERS_END}
use Rattle.mr_concise.specs.Next.{IsNextOut}

-- the set has all up to the bound, from here on
abbrev pub HasNoHoleFrom : (ℕ → Bool) → ℕ → ℕ → Type 0
HasNoHoleFrom has upto from = (c : ℕ) → from ≤ c → has c ≡ nat_le c upto

-- the hole is the first that ends here or later, and the set goes on after it
pub record IsHoleFrom (has : ℕ → Bool) (upto from : ℕ) (hole : Hole) : Type 0 where
  pub reaches : from ≤ hole.last
  pub ordered : hole.first ≤ hole.last
  pub from_one : 1 ≤ hole.first
  pub below : hole.last < upto
  pub before : (c : ℕ) → from ≤ c → c < hole.first → has c ≡ true
  pub inside : (c : ℕ) → hole.first ≤ c → c ≤ hole.last → has c ≡ false
  pub after : has (hole.last + 1) ≡ true

-- the gap has the first counters from here on that the set has not, up to one that the set has, or to where counters end
pub record IsGapFrom (has : ℕ → Bool) (from : ℕ) (gap : Hole) : Type 0 where
  pub begins : IsNextOut has from gap.first
  pub ordered : gap.first ≤ gap.last
  pub inside : (c : ℕ) → gap.first ≤ c → c ≤ gap.last → has c ≡ false
  pub after : gap.last < COUNTERS_END → has (gap.last + 1) ≡ true
