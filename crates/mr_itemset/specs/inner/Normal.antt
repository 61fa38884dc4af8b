-- the listed items alone
use Rattle.std.specs.Prelude.{List, map}
use Rattle.mr_version.specs.Name.{Name}
use Rattle.mr_itemset.specs.declared.knowledge.Listed.{Listed}

-- the items that are listed
abbrev pub items_of : List Listed → List Name
items_of listed = map (λ x. x.item) listed
