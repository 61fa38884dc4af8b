-- the limits, as numbers: contracts name them
use Rattle.std.specs.Prelude.{◌≡◌, refl}
use Rattle.mr_replica.specs.declared.replica.TheConstants.{MAX_EVENTS}

pub events : MAX_EVENTS ≡ 1000000
events = refl
