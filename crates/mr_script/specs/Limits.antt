-- the limits, as numbers: contracts name them
use Rattle.std.specs.Prelude.{◌≡◌, refl}
use Rattle.mr_script.specs.declared.source.TheConstants.{MAX_SCRIPT_BYTES, MAX_READS}

pub script_bytes : MAX_SCRIPT_BYTES ≡ 16777216
script_bytes = refl

-- as many as the longest script's bytes, and two
pub script_reads : MAX_READS ≡ 16777218
script_reads = refl
