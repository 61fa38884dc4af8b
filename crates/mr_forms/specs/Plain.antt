use Rattle.std.specs.Prelude.{◌≡◌, ◌≢◌, Bool, true, false, ◌||◌, ◌&&◌, not, List, [], ◌∷◌, Option, Some, None, All, AllPairs}
use Rattle.std.specs.List.{list_any}
use Rattle.std.specs.declared.cmp.Ordering.TheVariants.{Less}
use Rattle.mr_version.specs.Name.{Name, name_cmp, name_eq}
use Rattle.mr_forms.specs.declared.fragment.ItemSet.{ItemSet}
use Rattle.mr_forms.specs.declared.fragment.ItemSet.TheVariants.{All as AllItems, Listed}
use Rattle.mr_forms.specs.declared.fragment.Fragment.{Fragment}
use Rattle.mr_forms.specs.Sets.{Versions, IsSame, is_listed}
use Rattle.mr_forms.specs.Known.{Pairs, AreSame, Part, Form}
use Rattle.mr_forms.specs.PlainPair.{PlainKnown, pair, has_pair}

-- the versions of all items are known for each, and the pairs
abbrev pub plain_known : PlainKnown → Pairs
plain_known k i v = is_listed k.for_all v || has_pair k.pairs (pair i v)

-- the pairs that are known beyond what is known for all items
abbrev pub beyond_all : PlainKnown → Pairs
beyond_all k i v = has_pair k.pairs (pair i v) && not (is_listed k.for_all v)

-- the versions that are known for all items, or beyond them for the one item that is listed
abbrev pub HasPlainVersions : PlainKnown → Option (List Name) → Versions → Type 0
HasPlainVersions k None versions = versions ≡ is_listed k.for_all
HasPlainVersions k (Some []) versions = ⊥
HasPlainVersions k (Some (i ∷ rest)) versions = (rest ≡ []) × (versions ≡ beyond_all k i)

-- What is known for all items is one part, where it is something; and what is known for an item beyond it is one, where
-- it is something.
abbrev pub IsPlainPart : PlainKnown → Part → Type 0
IsPlainPart k p = ((v : Name) × (p.versions v ≡ true)) × HasPlainVersions k p.items p.versions

-- a version is learned for its item alone, and there is a value for all that can be known
abbrev pub plain_form : Form PlainKnown
plain_form = record {
  known = plain_known;
  is_part = IsPlainPart;
  learns_for_all = λ _ _ _ _. false;
  firsts_for_all = λ _ _ _ _. false;
  has_too_many_holes = λ _. ⊥;
  has_too_many_items = λ _. ⊥;
}

-- the items are all, or one
abbrev pub IsAllOrOne : ItemSet → Type 0
IsAllOrOne AllItems = Unit {0}
IsAllOrOne (Listed items) = (i : Name) × (items.items ≡ i ∷ [])

-- all items stand before listed ones, and those before higher ones
abbrev pub ComesBefore : ItemSet → ItemSet → Type 0
ComesBefore before AllItems = ⊥
ComesBefore AllItems (Listed items) = Unit {0}
ComesBefore (Listed before) (Listed items) = All (λ i. All (λ j. name_cmp i j ≡ Less) items.items) before.items

-- at most one fragment of all items, and then fragments of one item each, in the items' order, each with some version
pub record IsOneByOne (fragments : List (Fragment (List Name))) : Type 0 where
  pub single : All (λ f. IsAllOrOne f.items) fragments
  pub in_order : AllPairs (λ f g. ComesBefore f.items g.items) fragments
  pub filled : All (λ f. f.vector ≢ []) fragments

-- whether they are all items
abbrev pub is_all : ItemSet → Bool
is_all AllItems = true
is_all (Listed items) = false

-- whether the item is listed by its name
abbrev pub is_named : ItemSet → Name → Bool
is_named AllItems i = false
is_named (Listed items) i = list_any (λ item. name_eq item i) items.items

-- what fragments of all items have
abbrev pub had_for_all : List (Fragment (List Name)) → Versions
had_for_all fragments v = list_any (λ f. is_all f.items && is_listed f.vector v) fragments

-- what fragments that list an item have for it
abbrev pub had_by_item : List (Fragment (List Name)) → Pairs
had_by_item fragments i v = list_any (λ f. is_named f.items i && is_listed f.vector v) fragments

-- The fragments have just what is known: for all items what is known for all, and for each item what is known beyond it.
pub record AreFragmentsOf (known : PlainKnown) (fragments : List (Fragment (List Name))) : Type 0 where
  pub for_all : IsSame (had_for_all fragments) (is_listed known.for_all)
  pub by_item : AreSame (had_by_item fragments) (beyond_all known)
  pub one_by_one : IsOneByOne fragments
