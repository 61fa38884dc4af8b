use Rattle.std.specs.Prelude.{◌≡◌, ◌≢◌, ◌<◌, ℕ, true, false, ◌||◌, List, [], Option, Some, None, All, length}
use Rattle.std.specs.List.{list_any, IsDistinct}
use Rattle.mr_version.specs.Name.{Name, name_eq}
use Rattle.mr_forms.specs.declared.fragment.TheConstants.{MAX_ITEMS}
use Rattle.mr_forms.specs.Sets.{Versions, IsSame}
use Rattle.mr_forms.specs.Known.{Pairs, Part, Form}
use Rattle.mr_concise.specs.Vector.{vector_has, HasTooManyHoles}
use Rattle.mr_itemset.specs.Normal.{Normal, normal_known}
use Rattle.mr_itemset.specs.Pieces.{HasPiece}

-- the pairs with all of a set for all items
abbrev pub with_all : Pairs → Versions → Pairs
with_all old set = λ i v. set v || old i v

-- of some item so much is known that its vector has a column with too many holes
pub record HasHoleyItem (pairs : Pairs) : Type 0 where
  pub item : Name
  pub holes : HasTooManyHoles (pairs item)

-- Of these items, and of no others, something else is known than of all the others; and they are more than so many.
pub record ListsTooMany (limit : ℕ) (pairs : Pairs) : Type 0 where
  pub all : Versions
  pub items : List Name
  pub distinct : IsDistinct name_eq items
  pub more : All (λ i. ¬ IsSame (pairs i) all) items
  pub rest : (i : Name) → list_any (name_eq i) items ≡ false → IsSame (pairs i) all
  pub many : limit < length items

-- The versions are those of all items; or they are something else, and the items are a piece of all those of which just
-- these are known.
abbrev pub HasNormalVersions : Normal → Option (List Name) → Versions → Type 0
HasNormalVersions k None versions = versions ≡ vector_has k.all
HasNormalVersions k (Some items) versions = (items ≢ []) × (versions ≢ vector_has k.all) × HasPiece MAX_ITEMS (normal_known k) versions items

-- one part of all items, and for each set of versions that some items have beyond it, all of these in parts of as many as
-- a fragment lists, and the rest in the last
abbrev pub IsNormalPart : Normal → Part → Type 0
IsNormalPart k p = HasNormalVersions k p.items p.versions

-- A version is learned for all items. There is no value where a vector would have too many holes, nor where more than so
-- many items would be listed.
abbrev pub items_form : ℕ → Form Normal
items_form limit = record {
  known = normal_known;
  is_part = IsNormalPart;
  learns_for_all = λ _ _ _ _. true;
  firsts_for_all = λ _ _ _ _. false;
  has_too_many_holes = HasHoleyItem;
  has_too_many_items = ListsTooMany limit;
}

-- the form of a knowledge that lists no more items than a fragment lists
abbrev pub item_form : Form Normal
item_form = items_form MAX_ITEMS
