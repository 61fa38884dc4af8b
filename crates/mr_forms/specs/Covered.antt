use Rattle.std.specs.Prelude.{◌≢◌, Bool, true, ◌&&◌, List, [], Option, Some, None}
use Rattle.std.specs.List.{list_any}
use Rattle.mr_version.specs.Name.{Name, name_eq}
use Rattle.mr_forms.specs.declared.fragment.ItemSet.{ItemSet}
use Rattle.mr_forms.specs.declared.fragment.ItemSet.TheVariants.{All, Listed}
use Rattle.mr_forms.specs.declared.fragment.Fragment.{Fragment}
use Rattle.mr_forms.specs.Sets.{Versions}
use Rattle.mr_forms.specs.Known.{Pairs}

-- whether the item is among them
abbrev pub has_item : ItemSet → Name → Bool
has_item All i = true
has_item (Listed items) i = list_any (λ item. name_eq item i) items.items

-- the items that are listed, or none where they are all items
abbrev pub listed_items : ItemSet → Option (List Name)
listed_items All = None
listed_items (Listed items) = Some items.items

-- they are all items, or at least one
abbrev pub HasItems : ItemSet → Type 0
HasItems All = Unit {0}
HasItems (Listed items) = items.items ≢ []

-- a fragment covers each version of its vector for each of its items
abbrev pub covered : {V : Type 0} → (V → Versions) → Fragment V → Pairs
covered has f i v = has_item f.items i && has f.vector v

-- what some fragment covers
abbrev pub all_covered : {V : Type 0} → (V → Versions) → List (Fragment V) → Pairs
all_covered has fs i v = list_any (λ f. covered has f i v) fs
