-- what a full source covers and did not hold
use Rattle.std.specs.Prelude.{not, ◌&&◌, List}
use Rattle.mr_forms.specs.Known.{Pairs}
use Rattle.mr_forms.specs.Covered.{all_covered}
use Rattle.mr_concise.specs.AnyOf.{in_any}
use Rattle.mr_concise.specs.Fragments.{ConciseFragment}
use Rattle.mr_concise.specs.declared.vector.AuthorColumn.{AuthorColumn}
use Rattle.mr_concise.specs.Vector.{vector_has}

-- the versions of items that the fragments cover and that no vector has
abbrev pub is_unheld : (learned : List ConciseFragment) → (held : List (List AuthorColumn)) → Pairs
is_unheld learned held i v = all_covered vector_has learned i v && not (in_any vector_has held v)
