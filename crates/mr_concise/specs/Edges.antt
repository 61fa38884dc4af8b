use Rattle.std.specs.Prelude.{◌<◌, ℕ, List, [], ◌∷◌}

-- the edges rise, and are all above low
abbrev pub IsRising : ℕ → List ℕ → Type 0
IsRising low [] = Unit {0}
IsRising low (t ∷ ts) = (low < t) × IsRising t ts
