use Rattle.std.specs.Prelude.{◌≡◌, Bool, true, false, ◌&&◌, List, ◌∷◌, Option, Some, None, All, AllPairs}
use Rattle.std.specs.List.{list_any}
use Rattle.mr_version.specs.Name.{Name, name_eq}
use Rattle.mr_forms.specs.declared.fragment.TheConstants.{MAX_ITEMS}
use Rattle.mr_forms.specs.Sets.{Versions, IsSame, Covers}
use Rattle.mr_forms.specs.Known.{Pairs, AreSame, Part}
use Rattle.mr_forms.specs.Parts.{AreInOrder}
use Rattle.mr_itemset.specs.Normal.{Normal, normal_known}
use Rattle.mr_itemset.specs.Pieces.{IsFullBefore}

-- whether the item is among them: all items, or those that are listed
abbrev pub is_of : Option (List Name) → Name → Bool
is_of None i = true
is_of (Some items) i = list_any (λ item. name_eq item i) items

-- what some part says
abbrev pub said : List Part → Pairs
said parts i v = list_any (λ p. is_of p.items i && p.versions v) parts

-- the set has all that the other has, and more
pub record IsGreater (set other : Versions) : Type 0 where
  pub covers : Covers set other
  pub more : ¬ IsSame set other

-- no item is among both
abbrev pub AreApart : Option (List Name) → Option (List Name) → Type 0
AreApart items others = (i : Name) → is_of items i ≡ true → is_of others i ≡ false

-- The normal form: one part of all items stands first, and may have nothing; each other one lists items, with more
-- versions than all items have; of parts with the same versions each but the last is full, with items below those of the
-- later ones; an item is in one part alone; items rise, and so do the first items of the parts.
pub record AreNormal (parts : List Part) : Type 0 where
  pub all : Versions
  pub listed : List Part
  pub first : parts ≡ (record { items = None; versions = all }) ∷ listed
  pub in_order : AreInOrder parts
  pub greater : All (λ p. IsGreater p.versions all) listed
  pub pieces : AllPairs (λ p q. IsSame p.versions q.versions → IsFullBefore MAX_ITEMS p.items q.items) listed
  pub apart : AllPairs (λ p q. AreApart p.items q.items) listed

-- the parts are in normal form, and say what is known
pub record AreNormalOf (k : Normal) (parts : List Part) : Type 0 where
  pub normal : AreNormal parts
  pub same : AreSame (normal_known k) (said parts)

-- a knowledge has one normal form
pub record HasOneNormalForm (k : Normal) : Type 0 where
  pub parts : List Part
  pub are : AreNormalOf k parts
  pub one : (others : List Part) → AreNormalOf k others → others ≡ parts
