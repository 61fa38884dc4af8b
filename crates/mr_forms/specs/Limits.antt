-- the limits, as numbers: contracts name them
use Rattle.std.specs.Prelude.{◌≡◌, refl}
use Rattle.mr_forms.specs.declared.fragment.TheConstants.{MAX_ITEMS}

pub items : MAX_ITEMS ≡ 65536
items = refl
