-- the higher one of two counters
use Rattle.std.specs.Prelude.{ℕ, max, Option, Some, None}

-- the higher one of two counters, where there are any
abbrev pub higher_of : Option ℕ → Option ℕ → Option ℕ
higher_of None b = b
higher_of (Some a) None = Some a
higher_of (Some a) (Some b) = Some (max a b)
