-- which files of deleted mail stay
use Rattle.std.specs.Prelude.{ℕ, ◌<◌, ◌+◌, ◌*◌}

-- from the one time to the other it is fewer than so many days, of 86,400 seconds each
abbrev pub IsYounger : (changed days now : ℕ) → Type 0
IsYounger changed days now = now < changed + days * 86400
