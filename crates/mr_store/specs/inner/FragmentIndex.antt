-- how one fragment is looked up by an item
use Rattle.std.specs.Prelude.{ℕ, Bool, false, List, Option}
use Rattle.std.specs.Option.{option_map_or}
use Rattle.std.specs.List.{slice_get}
use Rattle.mr_version.specs.Name.{Name, name_eq}
use Rattle.mr_forms.specs.Covered.{listed_items}
use Rattle.mr_concise.specs.declared.vector.AuthorColumn.{AuthorColumn}
use Rattle.mr_concise.specs.Fragments.{ConciseFragment}
use Rattle.mr_concise.specs.Vector.{vector_has}
use Rattle.mr_store.specs.declared.fragment_index.Listing.{Listing}

-- the items that a fragment lists, or none where it is of all items
abbrev pub items_of : ConciseFragment → Option (List Name)
items_of fragment = listed_items fragment.items

-- whether it is a listing of the item
abbrev pub is_for : Name → Listing → Bool
is_for item listing = name_eq listing.item item

-- whether the one at the place has the version
abbrev pub has_at : {F : Type 0} (vector : F → List AuthorColumn) → List F → Name → (place : ℕ) → Bool
has_at vector fragments v place = option_map_or (λ fragment. vector_has (vector fragment) v) (slice_get fragments place) false
