-- sets of counters by the edges at which they turn
use Rattle.std.specs.Prelude.{ℕ, Bool, not, nat_lt, if◌then◌else◌, List, [], ◌∷◌}

-- whether c is in the set that begins with `on` and turns at each edge
abbrev pub is_on : Bool → List ℕ → ℕ → Bool
is_on on [] c = on
is_on on (t ∷ ts) c = if nat_lt c t then on else is_on (not on) ts c
