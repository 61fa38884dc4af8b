-- what two vectors both have
use Rattle.mr_forms.specs.Sets.{Versions}
use Rattle.mr_concise.specs.declared.sweep.Meet.{Meet}
use Rattle.mr_concise.specs.Vector.{vector_has}
use Rattle.mr_concise.specs.Meet.{in_both}

-- the versions that two vectors both have
abbrev pub meet_has : Meet → Versions
meet_has m = in_both (vector_has m.a.now) (vector_has m.b.now)
