-- sets whose column would have too many holes, and those whose column would not
use Rattle.std.specs.Prelude.{◌<◌, ℕ, Bool, length}
use Rattle.mr_concise.specs.declared.column.TheConstants.{MAX_HOLES}
use Rattle.mr_concise.specs.Column.{Extent}
use Rattle.mr_concise.specs.Source.{IsColumnOf, HasAtMostHoles}

-- the column of these counters has no more holes than a column may have
abbrev pub HasFewHoles : (ℕ → Bool) → Type 0
HasFewHoles has = HasAtMostHoles has MAX_HOLES

-- the column of these counters has more
pub record HasManyHoles (has : ℕ → Bool) : Type 0 where
  pub column : Extent
  pub is : IsColumnOf has column
  pub many : MAX_HOLES < length column.holes
