-- the index of a list of revisions: the versions of each item that has more of them than its first
use Rattle.std.specs.Prelude.{◌≡◌, ◌<◌, ◌||◌, if◌then◌else◌, Bool, not, nat_le, length, List, Option, Some, None, vec_len, vec_capacity, IfSome, ⊤}
use Rattle.std.specs.declared.vec.Vec.{Vec}
use Rattle.std.specs.List.{list_any}
use Rattle.std.specs.Option.{option_map, option_and_then}
use Rattle.std.specs.BTreeMap.{BTreeMap, get}
use Rattle.mr_version.specs.Name.{Name, name_cmp, name_eq}
use Rattle.mr_madewith.specs.Revision.{Rev}
use Rattle.mr_madewith.specs.Keyed.{inserted}
use Rattle.mr_store.specs.Revisions.{versions_of}
use Rattle.mr_store.specs.inner.Room.{is_for_later}
use Rattle.mr_store.specs.declared.room.Room.{Room}

-- the versions with one more at its place
abbrev pub version_inserted : Name → List Name → List Name
version_inserted v vs = inserted (λ w. w) v vs

-- whether there are two or more
abbrev pub are_several : List Name → Bool
are_several vs = nat_le 2 (length vs)

-- whether one of the versions is not the item's first, which the item is named by
abbrev pub has_later : (item : Name) → List Name → Bool
has_later item vs = list_any (λ v. not (name_eq v item)) vs

-- what is to be listed for an item of these versions: all of them, where one is not the first or there is room for such a one; else nothing
abbrev pub to_list : (room : Option Room) → (item : Name) → List Name → Option (List Name)
to_list room item vs = if has_later item vs || is_for_later room item then Some vs else None

-- what stays of the list that an item has: it goes where nothing is to be listed
abbrev pub stays_listed : (room : Option Room) → (item : Name) → Option (List Name) → Option (List Name)
stays_listed room item listed = option_and_then (to_list room item) listed

module _ {Z : Type 0} where
  -- the versions that the index lists for an item, where it has a list for it
  abbrev pub listed_for : BTreeMap Name (Vec Name Z) → Name → Option (List Name)
  listed_for index item = option_map (λ versions. versions.items) (get name_cmp index item)

  -- the index lists for each item what is to be listed
  abbrev pub IsIndexOf : (room : Option Room) → List Rev → BTreeMap Name (Vec Name Z) → Type 0
  IsIndexOf room revisions index = (item : Name) → listed_for index item ≡ to_list room item (versions_of item revisions)

  -- a list of the room's item has room for one version more
  abbrev pub HasRoomFor : (room : Option Room) → BTreeMap Name (Vec Name Z) → Type 0
  HasRoomFor None index = ⊤
  HasRoomFor (Some room) index = IfSome (get name_cmp index room.item) (λ versions. vec_len versions < vec_capacity versions)
