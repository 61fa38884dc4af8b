-- values by their keys
use Rattle.std.specs.Prelude.{List, [], map, filter, Option, Some, None}
use Rattle.std.specs.declared.cmp.Ordering.{Ordering}
use Rattle.std.specs.Ordering.{is_eq}
use Rattle.std.specs.Map.{lookup}
use Rattle.std.specs.Global.{Vec}

-- the items of a list, if there is one
abbrev pub items_of : {V : Type 0} → Option (Vec V) → List V
items_of None = []
items_of (Some values) = values.items

-- the values that a table's entries have of a key
abbrev pub values_at : {K V : Type 0} → (K → K → Ordering) → List (K × Vec V) → K → List V
values_at cmp entries key = items_of (lookup (λ own. is_eq (cmp key own)) entries)

-- the values of the pairs with this key
abbrev pub values_of : {K V : Type 0} → (K → K → Ordering) → K → List (K × V) → List V
values_of cmp key pairs = map (λ p. p.1) (filter (λ p. is_eq (cmp p.0 key)) pairs)
