-- how far the union of two sets goes on
use Rattle.std.specs.Prelude.{◌≡◌, ◌≤◌, ◌<◌, ℕ, Bool, true, false}
use Rattle.mr_concise.specs.declared.column.TheConstants.{COUNTERS_END}

-- All from here up to the place are in the set. Where the place is here, the set has not what is here. The place is at
-- most COUNTERS_END, and 0 is not in the set.
pub record IsPassed (has : ℕ → Bool) (from at : ℕ) : Type 0 where
  pub above : from ≤ at
  pub bound : at ≤ COUNTERS_END
  pub between : (c : ℕ) → from ≤ c → c < at → has c ≡ true
  pub stays : at ≡ from → has from ≡ false
  pub zero : has 0 ≡ false
