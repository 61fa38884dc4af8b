-- an end over lanes as it is made, and as it goes down
use Rattle.std.specs.Prelude.{◌≡◌}
use Rattle.mr_lane.specs.Tap.{TapEnd}
use Rattle.mr_link.specs.declared.chunk.Chunk.{Chunk}
use Rattle.mr_link.specs.Link.{with_down}
use Rattle.mr_link.specs.LaneLink.{LaneEnd, new_link}

-- the end was down once more
abbrev pub is_down : LaneEnd → LaneEnd
is_down end = record end { tells = with_down end.tells }

-- a new end over these lanes
pub record IsEndOf (spout tap : TapEnd Chunk) (end : LaneEnd) : Type 0 where
  pub sends_to : end.sends_to ≡ spout.id
  pub receives_from : end.receives_from ≡ tap.id
  pub capacity : end.capacity ≡ spout.capacity
  pub tells : end.tells ≡ new_link
