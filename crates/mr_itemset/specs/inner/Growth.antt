use Rattle.std.specs.Prelude.{◌≡◌, ◌≤◌, ◌+◌, ◌⊎◌, ℕ, List, Option, Some, None, All, AllPairs, Contains, length}
use Rattle.mr_version.specs.Name.{Name}
use Rattle.mr_forms.specs.Sets.{Versions, IsSame, both}
use Rattle.mr_forms.specs.Known.{Pairs, AreSame, HasValue, with_below}
use Rattle.mr_concise.specs.declared.vector.AuthorColumn.{AuthorColumn}
use Rattle.mr_concise.specs.Vector.{vector_has}
use Rattle.mr_itemset.specs.declared.knowledge.Listed.{Listed}
use Rattle.mr_itemset.specs.Normal.{Normal, IsBefore, HasMore, normal_known}
use Rattle.mr_itemset.specs.ItemForm.{items_form, with_all}

-- one listed item became another: its item is the same, and its vector has gained the set
pub record HasGained (set : Versions) (x y : Listed) : Type 0 where
  pub item : y.item ≡ x.item
  pub vector : IsSame (vector_has y.vector) (both set (vector_has x.vector))

-- The item is listed with the set too, behind the others; or it is not listed, since all items have just that.
pub record GainsListed (set : Versions) (all : List AuthorColumn) (x : Listed) (old new : List Listed) : Type 0 where
  pub rising : AllPairs IsBefore old → AllPairs IsBefore new
  pub more : All (HasMore all) old → All (HasMore all) new
  pub few : length new ≤ length old + 1
  pub items : (y : Listed) → Contains new y → Contains old y ⊎ HasGained set x y
  pub stays : (y : Listed) → Contains old y → Contains new y
  pub gains : ((y : Listed) × (Contains new y × HasGained set x y)) ⊎ IsSame (vector_has all) (both set (vector_has x.vector))

-- Of each listed item the new list has it with the set, or it is listed no longer, since all items have that now.
pub record IsGrown (set : Versions) (all : List AuthorColumn) (old new : List Listed) : Type 0 where
  pub rising : AllPairs IsBefore new
  pub more : All (HasMore all) new
  pub few : length new ≤ length old
  pub from_old : (y : Listed) → Contains new y → (x : Listed) × (Contains old x × HasGained set x y)
  pub of_old : (x : Listed) → Contains old x → ((y : Listed) × (Contains new y × HasGained set x y)) ⊎ IsSame (vector_has all) (both set (vector_has x.vector))

-- the pairs with all of a set for an item, if there is one
abbrev pub with_some_below : Pairs → Option Name → Versions → Pairs
with_some_below old None set = old
with_some_below old (Some item) set = with_below old item set

-- All items have learned the versions, and the item the set, if there is one. Each of the two steps has a value.
pub record HasLearned (limit : ℕ) (old new : Normal) (learned : Versions) (item : Option Name) (set : Versions) : Type 0 where
  pub known : AreSame (normal_known new) (with_some_below (with_all (normal_known old) learned) item set)
  pub first : HasValue (items_form limit) (with_all (normal_known old) learned)
  pub second : HasValue (items_form limit) (with_some_below (with_all (normal_known old) learned) item set)
