-- a store as contracts see it
use Rattle.std.specs.Prelude.{Option, Some, None, List}
use Rattle.mr_madewith.specs.Revision.{Rev}
use Rattle.mr_store.specs.Revisions.{entered}
use Rattle.mr_store.specs.Room.{room_of}
use Rattle.mr_store.specs.declared.room.Room.{Room}
use Rattle.mr_store.specs.declared.store.Part.{Part}
use Rattle.mr_store.specs.declared.store.Part.TheVariants.{Heads, PushOuts}

-- the two lists, and for each the version of an item for which it has room
pub record Holdings : Type 0 where
  pub heads : List Rev
  pub push_outs : List Rev
  pub head_room : Option Room
  pub push_out_room : Option Room

-- the version of an item for which there is room in the part
abbrev pub room_in : Part → Holdings → Option Room
room_in Heads h = h.head_room
room_in PushOuts h = h.push_out_room

-- the holdings with room for the revision
abbrev pub with_room : Part → Rev → Holdings → Holdings
with_room Heads r h = record h { head_room = Some (room_of r) }
with_room PushOuts r h = record h { push_out_room = Some (room_of r) }

-- the holdings with one more revision, in the room that was made for it
abbrev pub put_in : Part → Rev → Holdings → Holdings
put_in Heads r h = record h { heads = entered r h.heads; head_room = None }
put_in PushOuts r h = record h { push_outs = entered r h.push_outs; push_out_room = None }
