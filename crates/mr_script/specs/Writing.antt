-- what was written of the bytes that waited
use Rattle.std.specs.Prelude.{◌≡◌, ℕ, List, ◌++◌, Option}
use Rattle.std.specs.Io.KnownBytes.{Appends}

-- what waited was written up to what waits still
pub record Settles (old new : Option (List ℕ)) (waited waits : List ℕ) : Type 0 where
  pub written : List ℕ
  pub are : Appends old new written
  pub all : waited ≡ written ++ waits
