-- the text of a filter, as it grows
use Rattle.std.specs.Prelude.{◌≡◌, ℕ, List, ◌++◌}
use Rattle.std.specs.List.{AllZip}
use Rattle.mr_filter.specs.Condition.{Condition, SpellsCondition}

-- the new texts are the old ones and the conditions' texts
abbrev pub SpellsMore : List (List ℕ) → List (List ℕ) → List Condition → Type 0
SpellsMore old new conditions = (pieces : List (List ℕ)) × AllZip SpellsCondition pieces conditions × (new ≡ old ++ pieces)
