-- room for one more revision
use Rattle.mr_madewith.specs.Revision.{Rev}
use Rattle.mr_store.specs.declared.room.Room.{Room}

-- room for the revision
abbrev pub room_of : Rev → Room
room_of r = record { item = r.item; version = r.version }
