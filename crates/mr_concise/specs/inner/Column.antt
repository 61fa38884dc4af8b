-- columns beside one another, and the holes of one as they are merged
use Rattle.std.specs.Prelude.{◌≡◌, ℕ, true, List, [], ◌∷◌, ◌++◌}
use Rattle.mr_concise.specs.declared.column.Hole.{Hole}
use Rattle.mr_concise.specs.Edges.{IsRising}
use Rattle.mr_concise.specs.Column.{Extent, column_has, hole_edges}

-- what the second column has is in the first
abbrev pub ColumnCovers : Extent → Extent → Type 0
ColumnCovers a b = (c : ℕ) → column_has b c ≡ true → column_has a c ≡ true

-- the holes are apart
pub record AreApart (holes : List Hole) : Type 0 where
  pub end : ℕ
  pub apart : IsRising 0 (hole_edges holes ++ end ∷ [])
