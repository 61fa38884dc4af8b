-- the limits, as numbers: contracts name them
use Rattle.std.specs.Prelude.{◌≡◌, refl}
use Rattle.mr_wire.specs.declared.decoding.TheConstants.{MAX_REST_BYTES}
use Rattle.mr_wire.specs.declared.frame.TheConstants.{MAX_ASKED_BYTES}
use Rattle.mr_wire.specs.Encoding.{longest_fragment}

pub rest_bytes : MAX_REST_BYTES ≡ 8388608
rest_bytes = refl

pub asked_bytes : MAX_ASKED_BYTES ≡ 8000000
asked_bytes = refl

pub fragment_bytes : longest_fragment ≡ 2490887
fragment_bytes = refl
