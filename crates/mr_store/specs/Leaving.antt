-- versions that leave a list
use Rattle.std.specs.Prelude.{◌||◌, List}
use Rattle.mr_version.specs.Name.{Name}
use Rattle.mr_forms.specs.Sets.{Versions, is_listed}
use Rattle.mr_concise.specs.declared.vector.AuthorColumn.{AuthorColumn}
use Rattle.mr_concise.specs.Vector.{vector_has}

-- what leaves: the versions that are listed, and those below
abbrev pub leaves : List Name → List AuthorColumn → Versions
leaves versions below v = is_listed versions v || vector_has below v
