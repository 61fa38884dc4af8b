-- for which version a room is
use Rattle.std.specs.Prelude.{◌&&◌, Bool, false, not, Option, Some, None}
use Rattle.mr_version.specs.Name.{Name, name_eq}
use Rattle.mr_store.specs.declared.room.Room.{Room}

-- whether the room is for a version of the item that is not its first, which the item is named by
abbrev pub is_for_later : (room : Option Room) → (item : Name) → Bool
is_for_later None item = false
is_for_later (Some room) item = name_eq room.item item && not (name_eq room.version room.item)
