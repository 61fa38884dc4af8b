-- what a new version supersedes
use Rattle.std.specs.Prelude.{nat_le, nat_lt, ◌||◌, ◌&&◌, ◌==◌, Option, List}
use Rattle.std.specs.List.{list_any}
use Rattle.mr_version.specs.Name.{Name}
use Rattle.mr_forms.specs.Sets.{Versions, IsSame}
use Rattle.mr_concise.specs.declared.vector.AuthorColumn.{AuthorColumn}
use Rattle.mr_concise.specs.Source.{in_some}
use Rattle.mr_concise.specs.Vector.{vector_has, IsVectorFrom}
use Rattle.mr_madewith.specs.Revision.{Rev, by_base}

-- the new version's own column, filled: its author's versions before it
abbrev pub own_before : Name → Versions
own_before new v = (v.author == new.author) && (nat_le 1 v.counter && nat_lt v.counter new.counter)

-- these versions, with all that they supersede
abbrev pub by_bases : List Rev → Versions
by_bases bases v = list_any (λ base. by_base base v) bases

-- The bases with all that they supersede, the author's last version of the item with all that it supersedes,
-- and the own column, filled.
abbrev pub filled_below : (by_bases : Versions) → Option Rev → Name → Versions
filled_below bases last new v = (bases v || in_some by_base last v) || own_before new v

-- the columns of the set: there is one such list at most
pub record AreColumnsOf (set : Versions) (columns : List AuthorColumn) : Type 0 where
  pub vector : IsVectorFrom 0 columns
  pub same : IsSame (vector_has columns) set
