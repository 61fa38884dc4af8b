use Rattle.std.proofs.Common.{◌≡◌, ◌++◌, flat_map}
use Rattle.mr_draw.proofs.Names.{below, merged_by, rivals_at}
use Rattle.mr_draw.proofs.contested.contested.Given as goal

-- what was merged, and the rivals of the replicas of the ids so far
abbrev pub invariant-loop-id : goal.invariant-loop-id
invariant-loop-id g l = l.contested.items ≡ flat_map merged_by l.world.answers ++ flat_map (rivals_at l.world) (below l.id)
