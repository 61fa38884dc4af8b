use Rattle.std.proofs.Common.{◌≡◌}
use Rattle.mr_draw.proofs.Names.{below, filter_map, lane_at}
use Rattle.mr_draw.proofs.picture.lanes.Given as goal

-- the replicas of the ids so far
abbrev pub invariant-loop-id : goal.invariant-loop-id
invariant-loop-id g l = l.lanes.items ≡ filter_map (lane_at l.world) (below l.id)
