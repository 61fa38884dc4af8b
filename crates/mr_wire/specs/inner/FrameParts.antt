-- a version with what it supersedes, as it is read
use Rattle.std.specs.Prelude.{◌≡◌, ℕ, List, Option, Some, None}
use Rattle.mr_version.specs.Name.{Name}
use Rattle.mr_concise.specs.declared.vector.AuthorColumn.{AuthorColumn}
use Rattle.mr_wire.specs.declared.revision.ReadDescent.{ReadDescent}
use Rattle.mr_wire.specs.Values.{DescentParts}
use Rattle.mr_wire.specs.Reading.{Stands}
use Rattle.mr_wire.specs.Parts.{descent_at}

-- the version of the item, with what it supersedes
abbrev pub descent_with : Name → Name → List AuthorColumn → DescentParts
descent_with item version below = record { item = item; version = version; below = below }

abbrev pub FindsDescent : List ℕ → Option ReadDescent → List ℕ → Type 0
FindsDescent old None new = descent_at old ≡ None
FindsDescent old (Some found) new = Stands (descent_with found.item found.version) descent_at old found.below new (λ descent. (descent.item ≡ found.item) × (descent.version ≡ found.version))
