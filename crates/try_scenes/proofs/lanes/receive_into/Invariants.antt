use Rattle.std.proofs.Common.{◌≡◌}
use Rattle.mr_link.specs.LaneLink.{SameEnd}
use Rattle.try_scenes.proofs.lanes.receive_into.Given as goal

abbrev pub invariant-loop : goal.invariant-loop
invariant-loop g l = record {
  downs : l.link.tells.downs ≡ 0;
  same : SameEnd l.fn.link l.link;
}
