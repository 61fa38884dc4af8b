-- two lists of revisions, walked as one
use Rattle.std.specs.Prelude.{Bool, true, false, List, [], ◌∷◌}
use Rattle.mr_madewith.specs.Revision.{Rev}
use Rattle.mr_madewith.specs.Keyed.{is_before}

-- whether the first on the left comes before the first on the right, where there are any
abbrev pub is_left_first : List Rev → List Rev → Bool
is_left_first [] right = false
is_left_first (r ∷ rs) [] = true
is_left_first (r ∷ rs) (s ∷ ss) = is_before r.version s.version
