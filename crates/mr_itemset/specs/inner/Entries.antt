use Rattle.std.specs.Prelude.{List, map}
use Rattle.mr_version.specs.Name.{Name}
use Rattle.mr_concise.specs.declared.vector.AuthorColumn.{AuthorColumn}
use Rattle.mr_itemset.specs.declared.knowledge.Listed.{Listed}

-- the item with this vector
abbrev pub listed_as : Name → List AuthorColumn → Listed
listed_as item vector = record { item = item; vector = vector }

-- the items that a map lists, from its entries
abbrev pub listed_of : List (Name × List AuthorColumn) → List Listed
listed_of entries = map (λ e. listed_as e.0 e.1) entries

-- the vectors of listed items
abbrev pub vectors_of : List Listed → List (List AuthorColumn)
vectors_of listed = map (λ x. x.vector) listed
