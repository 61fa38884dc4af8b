use Rattle.std.specs.Prelude.{◌≡◌, ◌≤◌, ◌≢◌, List, [], ◌∷◌, length, Option, Some, None, IfSome, All, AllPairs, Contains}
use Rattle.std.specs.List.Sorted.{IsStrictlySortedBy}
use Rattle.std.specs.declared.cmp.Ordering.TheVariants.{Less}
use Rattle.mr_version.specs.Name.{Name, name_cmp}
use Rattle.mr_forms.specs.declared.fragment.TheConstants.{MAX_ITEMS}
use Rattle.mr_forms.specs.Sets.{Versions}
use Rattle.mr_forms.specs.declared.fragment.Fragment.{Fragment}
use Rattle.mr_forms.specs.Covered.{listed_items}
use Rattle.mr_forms.specs.Known.{Part}

-- what a fragment says: its items, and which versions are known for each
abbrev pub part_of : {V : Type 0} → (V → Versions) → Fragment V → Part
part_of has f = record { items = listed_items f.items; versions = has f.vector }

-- strictly rising items: at least one, and no more than a fragment lists
pub record AreListable (items : List Name) : Type 0 where
  pub some : items ≢ []
  pub few : length items ≤ MAX_ITEMS
  pub rising : IsStrictlySortedBy name_cmp items

-- all items come before listed ones, and those with a lower first item before those with a higher one
abbrev pub ComesFirst : Option (List Name) → Option (List Name) → Type 0
ComesFirst before None = ⊥
ComesFirst None (Some items) = Unit {0}
ComesFirst (Some []) (Some items) = ⊥
ComesFirst (Some (i ∷ rest)) (Some []) = ⊥
ComesFirst (Some (i ∷ rest)) (Some (j ∷ others)) = name_cmp i j ≡ Less

-- At most one part of all items, and it stands first; each other lists items, and they stand by the first of these.
pub record AreInOrder (parts : List Part) : Type 0 where
  pub listable : All (λ p. IfSome p.items AreListable) parts
  pub in_order : AllPairs (λ p q. ComesFirst p.items q.items) parts

-- the parts that have the property, each once, in order
pub record ArePartsThat (is_part : Part → Type 0) (parts : List Part) : Type 0 where
  pub in_order : AreInOrder parts
  pub are : All is_part parts
  pub has_all : (p : Part) → is_part p → Contains parts p
