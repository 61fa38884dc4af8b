use Rattle.std.specs.Prelude.{◌≡◌, ◌<◌, ◌≤◌, ℕ, Bool, true, false}

-- at is the first number from here on that the set has not
pub record IsNextOut (has : ℕ → Bool) (from at : ℕ) : Type 0 where
  pub above : from ≤ at
  pub is_out : has at ≡ false
  pub between : (c : ℕ) → from ≤ c → c < at → has c ≡ true

-- at is the first number from here on that the set has
pub record IsNextIn (has : ℕ → Bool) (from at : ℕ) : Type 0 where
  pub above : from ≤ at
  pub is_in : has at ≡ true
  pub between : (c : ℕ) → from ≤ c → c < at → has c ≡ false

-- the set has nothing from here on
abbrev pub HasNoneFrom : (ℕ → Bool) → ℕ → Type 0
HasNoneFrom has from = (c : ℕ) → from ≤ c → has c ≡ false
