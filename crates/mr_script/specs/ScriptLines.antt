-- the lines of a script, taken one by one
use Rattle.std.specs.Prelude.{ℕ, List, Option}

-- the bytes that are left, up to the last that is looked at, where they are known; and how many were taken
pub record LinesView : Type 0 where
  pub left : Option (List ℕ)
  pub taken : ℕ
