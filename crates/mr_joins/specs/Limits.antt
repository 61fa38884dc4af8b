-- the limits, as numbers: contracts name them
use Rattle.std.specs.Prelude.{◌≡◌, refl}
use Rattle.mr_joins.specs.declared.word.TheConstants.{MAX_WORD_BYTES}

pub word_bytes : MAX_WORD_BYTES ≡ 200
word_bytes = refl
