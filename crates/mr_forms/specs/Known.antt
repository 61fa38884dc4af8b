use Rattle.std.specs.Prelude.{◌≡◌, ◌⊎◌, Bool, false, ◌||◌, ◌&&◌, List, Option}
use Rattle.mr_version.specs.Name.{Name, name_eq}
use Rattle.mr_forms.specs.Sets.{Versions}

-- a knowledge, by its test of an item and a version
abbrev pub Pairs : Type 0
Pairs = Name → Name → Bool

-- two knowledges have the same pairs
abbrev pub AreSame : Pairs → Pairs → Type 0
AreSame s t = (i v : Name) → s i v ≡ t i v

-- the pairs with one version more, for its item alone or for all items
abbrev pub with_learned : Bool → Pairs → Name → Name → Pairs
with_learned for_all old item version = λ i v. ((for_all || name_eq item i) && name_eq version v) || old i v

-- the pairs with all of a set for an item
abbrev pub with_below : Pairs → Name → Versions → Pairs
with_below old item set = λ i v. (name_eq item i && set v) || old i v

-- the pairs with one version more, and then with all of a set for its item
abbrev pub with_learned_below : Bool → Pairs → Name → Name → Versions → Pairs
with_learned_below for_all old item version set = with_below (with_learned for_all old item version) item set

-- the pairs with an item's first version, which names it, for all items, or as they are
abbrev pub with_first : Bool → Pairs → Name → Pairs
with_first for_all old item = λ i v. (for_all && name_eq item v) || old i v

-- the pairs of both
abbrev pub with_pairs : Pairs → Pairs → Pairs
with_pairs s t = λ i v. t i v || s i v

-- A part of a knowledge: the items that are listed, or none where they are all items; and which versions are known for
-- each of them.
pub record Part : Type 0 where
  pub items : Option (List Name)
  pub versions : Versions

-- A form of knowledge, as contracts see its values.
pub record Form (K : Type 0) : Type 1 where
  -- which versions are known for which items
  pub known : K → Pairs
  -- which parts its fragments are
  pub is_part : K → Part → Type 0
  -- whether a version that is learned for an item, with a set below it, is learned for all
  pub learns_for_all : K → Name → Name → Versions → Bool
  -- whether the item's first version, where it is in that set, is then learned for all too
  pub firsts_for_all : K → Name → Name → Versions → Bool
  -- the knowledge that this form has no value for, since a vector of it would have too many holes
  pub has_too_many_holes : Pairs → Type 0
  -- the knowledge that this form has no value for, since it would list too many items
  pub has_too_many_items : Pairs → Type 0

-- What is known with a version more, that came with a set below it, but without this set yet. The item's first version may
-- be learned for all items, where it is in the set: it is no version of another item, so of those it says nothing.
abbrev pub learned_of : {K : Type 0} → Form K → K → Name → Name → Versions → Pairs
learned_of form k item version set = with_first (form.firsts_for_all k item version set && set item) (with_learned (form.learns_for_all k item version set) (form.known k) item version) item

-- what is known with a version more that came alone
abbrev pub learned : {K : Type 0} → Form K → K → Name → Name → Pairs
learned form k item version = with_learned (form.learns_for_all k item version (λ _. false)) (form.known k) item version

-- what is known then with all of the set for its item
abbrev pub learned_with : {K : Type 0} → Form K → K → Name → Name → Versions → Pairs
learned_with form k item version set = with_below (learned_of form k item version set) item set

-- the knowledge would list too many items, and have no vector with too many holes
abbrev pub IsOnlyOverItems : {K : Type 0} → Form K → Pairs → Type 0
IsOnlyOverItems form pairs = form.has_too_many_items pairs × ¬ form.has_too_many_holes pairs

-- the form has a value for the knowledge
abbrev pub HasValue : {K : Type 0} → Form K → Pairs → Type 0
HasValue form pairs = ¬ form.has_too_many_holes pairs × ¬ form.has_too_many_items pairs

-- Of two results in turn: the first has too many holes, or it has a value and the second has too many holes.
abbrev pub IsOverHolesInTurn : {K : Type 0} → Form K → Pairs → Pairs → Type 0
IsOverHolesInTurn form first second = form.has_too_many_holes first ⊎ (HasValue form first × form.has_too_many_holes second)

-- Of two results in turn: the first lists too many items alone, or it has a value and the second lists too many items alone.
abbrev pub IsOverItemsInTurn : {K : Type 0} → Form K → Pairs → Pairs → Type 0
IsOverItemsInTurn form first second = IsOnlyOverItems form first ⊎ (HasValue form first × IsOnlyOverItems form second)
