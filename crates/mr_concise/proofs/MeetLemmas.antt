use Rattle.std.proofs.Common.{◌≡◌, ◌<◌, ◌≤◌, ℕ, Bool, false}

-- from here up to the place no counter is in the set
pub record NoneTo (has : ℕ → Bool) (from at : ℕ) : Type 0 where
  pub above : from ≤ at
  pub between : (c : ℕ) → from ≤ c → c < at → has c ≡ false
