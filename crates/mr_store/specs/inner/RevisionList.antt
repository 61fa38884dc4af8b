-- one list of a store, with its index
use Rattle.std.specs.Prelude.{◌<◌, Option, List, IsSome}
use Rattle.std.specs.declared.vec.Vec.{Vec}
use Rattle.std.specs.BTreeMap.{BTreeMap}
use Rattle.mr_version.specs.Name.{Name}
use Rattle.mr_madewith.specs.Revision.{Rev}
use Rattle.mr_store.specs.Revisions.{AreInVersionOrder}
use Rattle.mr_store.specs.inner.GapVector.{GapParts}
use Rattle.mr_store.specs.inner.Index.{IsIndexOf, HasRoomFor}
use Rattle.mr_store.specs.declared.room.Room.{Room}

-- the revisions in version order, and the version of an item for which there is room
pub record RevisionParts : Type 0 where
  pub revisions : List Rev
  pub room : Option Room

-- What a list of a store keeps. The index has an item exactly where more of it is held than its first version, or is to come.
pub record IsRevisionList {Z : Type 0} (revisions : GapParts) (index : BTreeMap Name (Vec Name Z)) (room : Option Room) : Type 0 where
  pub in_order : AreInVersionOrder revisions.items
  pub indexed : IsIndexOf room revisions.items index
  pub has_place : IsSome room → 0 < revisions.spare
  pub has_room : HasRoomFor room index
