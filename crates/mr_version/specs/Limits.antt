-- the limits, as numbers: contracts name them
use Rattle.std.specs.Prelude.{◌≡◌, refl}
use Rattle.mr_version.specs.declared.author.TheConstants.{AUTHORS}
use Rattle.mr_version.specs.declared.version.TheConstants.{MAX_COUNTER}

pub authors : AUTHORS ≡ 64
authors = refl

pub counters : MAX_COUNTER ≡ 1000000
counters = refl
