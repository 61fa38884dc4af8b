-- the limits, as numbers: contracts name them
use Rattle.std.specs.Prelude.{◌≡◌, refl}
use Rattle.mr_concise.specs.declared.column.TheConstants.{MAX_HOLES}

pub holes : MAX_HOLES ≡ 4096
holes = refl
