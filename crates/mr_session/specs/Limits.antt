-- the limits, as numbers: contracts name them
use Rattle.std.specs.Prelude.{◌≡◌, refl}
use Rattle.mr_session.specs.declared.limits.TheConstants.{MAX_OPEN}

pub open_ones : MAX_OPEN ≡ 8
open_ones = refl
