use Rattle.std.specs.Prelude.{ℕ, Bool, ◌&&◌, nat_lt, if◌then◌else◌, List, [], ◌∷◌, ◌++◌, length}
use Rattle.mr_version.specs.Name.{Name}
use Rattle.mr_concise.specs.declared.vector.AuthorColumn.{AuthorColumn}
use Rattle.mr_concise.specs.Equal.{vector_eq}
use Rattle.mr_itemset.specs.declared.knowledge.Listed.{Listed}

-- items that have one vector
pub record Alike : Type 0 where
  pub vector : List AuthorColumn
  pub items : List Name

-- the group of one item
abbrev pub alone : Listed → Alike
alone x = record { vector = x.vector; items = x.item ∷ [] }

-- the group with an item more
abbrev pub with_item : Alike → Name → Alike
with_item g item = record { vector = g.vector; items = g.items ++ item ∷ [] }

-- the group takes an item of this vector: it is its own, and the group has fewer items than so many
abbrev pub takes : ℕ → Alike → List AuthorColumn → Bool
takes most g vector = vector_eq g.vector vector && nat_lt (length g.items) most

-- The groups of at most so many items with a listed item more: in the first that takes it, or else in one of its own
-- behind the others.
abbrev pub grouped : ℕ → List Alike → Listed → List Alike
grouped most [] x = alone x ∷ []
grouped most (g ∷ gs) x = if takes most g x.vector then with_item g x.item ∷ gs else g ∷ grouped most gs x

-- the groups with these items more, one after the other
abbrev pub all_grouped : ℕ → List Alike → List Listed → List Alike
all_grouped most gs [] = gs
all_grouped most gs (x ∷ xs) = all_grouped most (grouped most gs x) xs
