-- ends of a link over lanes
use Rattle.std.specs.Prelude.{◌≡◌, ◌++◌, ℕ, false, List, [], Option, Some}
use Rattle.std.specs.List.{flat_map}
use Rattle.atomic_table.specs.Seated.{TableId}
use Rattle.mr_link.specs.declared.chunk.Chunk.{Chunk}
use Rattle.mr_link.specs.Link.{LinkView}

-- the bytes of these pieces
abbrev pub bytes_in : List Chunk → List ℕ
bytes_in pieces = flat_map (λ (piece : Chunk). piece.bytes.items) pieces

-- an end: the lane to which it sends, the one from which it receives, how many pieces may wait for its other end, and what it tells
pub record LaneEnd : Type 0 where
  pub sends_to : TableId
  pub receives_from : TableId
  pub capacity : ℕ
  pub tells : LinkView

abbrev pub lane_tells : LaneEnd → LinkView
lane_tells end = end.tells

-- nothing was sent or received yet, the link was never down, and it was not hung up
abbrev pub new_link : LinkView
new_link = record { received = Some []; sent = Some []; downs = 0; hung_up = false }

-- two new ends of one link: each sends to the lane from which the other receives
pub record AreJoined (capacity : ℕ) (here there : LaneEnd) : Type 0 where
  pub here_to_there : here.sends_to ≡ there.receives_from
  pub there_to_here : there.sends_to ≡ here.receives_from
  pub here_capacity : here.capacity ≡ capacity
  pub there_capacity : there.capacity ≡ capacity
  pub here_new : here.tells ≡ new_link
  pub there_new : there.tells ≡ new_link

-- two ends of one link, whatever has passed it
pub record AreEnds (here there : LaneEnd) : Type 0 where
  pub here_to_there : here.sends_to ≡ there.receives_from
  pub there_to_here : there.sends_to ≡ here.receives_from

-- what was received is a beginning of what was sent
pub record IsBeginning (received sent : Option (List ℕ)) : Type 0 where
  pub bytes : List ℕ
  pub more : List ℕ
  pub came : received ≡ Some bytes
  pub went : sent ≡ Some (bytes ++ more)

-- each end received a beginning of what the other sent
pub record AreSettled (here there : LaneEnd) : Type 0 where
  pub to_there : IsBeginning there.tells.received here.tells.sent
  pub to_here : IsBeginning here.tells.received there.tells.sent

-- an end is of the lanes of which it was
pub record SameEnd (old new : LaneEnd) : Type 0 where
  pub sends_to : new.sends_to ≡ old.sends_to
  pub receives_from : new.receives_from ≡ old.receives_from
