-- the limits, as numbers: contracts name them
use Rattle.std.specs.Prelude.{◌≡◌, refl}
use Rattle.mr_feed.specs.declared.port.TheConstants.{MAX_CAPACITY}

pub capacity : MAX_CAPACITY ≡ 4096
capacity = refl
