-- what the vector of one fragment covers
use Rattle.mr_forms.specs.Sets.{Versions}
use Rattle.mr_concise.specs.Fragments.{ConciseFragment}
use Rattle.mr_concise.specs.Vector.{vector_has}

-- what the fragment's vector has, for whatever items
abbrev pub by_vector : ConciseFragment → Versions
by_vector fragment = vector_has fragment.vector
