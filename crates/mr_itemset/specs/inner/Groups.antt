-- groups of items with one vector, as they are filled
use Rattle.std.specs.Prelude.{◌≡◌, ◌<◌, ◌⊎◌, ◌%◌, ℕ, true, List, [], ◌∷◌, Option, Some, None, AllPairs, get_or, length, refl}
use Rattle.std.specs.BTreeMap.{BTreeMap, get}
use Rattle.std.specs.Coded.{Coded, code_by, coded×, coded_list}
use Rattle.mr_version.specs.Name.{Name, name_code}
use Rattle.mr_forms.specs.declared.fragment.TheConstants.{MAX_ITEMS}
use Rattle.mr_concise.specs.declared.vector.AuthorColumn.{AuthorColumn}
use Rattle.mr_concise.specs.Vector.{author_column_code}
use Rattle.mr_concise.specs.Order.{vector_cmp}
use Rattle.mr_itemset.specs.Groups.{Alike, takes}

abbrev pub alike_code : Coded Alike
alike_code = code_by (List AuthorColumn × List Name) (coded× (coded_list author_column_code) (coded_list name_code)) (λ g. (g.vector, g.items)) (λ p. record { vector = p.0; items = p.1 }) (λ _. refl)

-- there is a group at the place, and it takes an item of the vector
abbrev pub TakesAt : List Alike → List AuthorColumn → ℕ → Type 0
TakesAt gs vector at = (at < length gs) × ((d : Alike) → takes MAX_ITEMS (get_or gs at d) vector ≡ true)

-- the bound of the vector's first column
abbrev pub mark_of : List AuthorColumn → ℕ
mark_of [] = 0
mark_of (x ∷ xs) = x.column.upto

-- the slot of a vector, of so many
abbrev pub slot_of : ℕ → List AuthorColumn → ℕ
slot_of count vector = mark_of vector % count

-- the place is noted for the vector: in its slot, or under the vector in the map
abbrev pub IsNoted : List (Option ℕ) → BTreeMap (List AuthorColumn) ℕ → List AuthorColumn → ℕ → Type 0
IsNoted slots others vector place = (get_or slots (slot_of (length slots) vector) None ≡ Some place) ⊎ (get vector_cmp others vector ≡ Some place)

-- the place of each group that still takes items is noted for its vector
abbrev pub AreNoted : List Alike → List (Option ℕ) → BTreeMap (List AuthorColumn) ℕ → Type 0
AreNoted gs slots others = (at : ℕ) (d : Alike) → at < length gs → length (get_or gs at d).items < MAX_ITEMS → IsNoted slots others (get_or gs at d).vector at

-- of two groups with one vector the first takes no item
abbrev pub FillInTurn : ℕ → List Alike → Type 0
FillInTurn most gs = AllPairs (λ g h. g.vector ≡ h.vector → ¬ (length g.items < most)) gs
