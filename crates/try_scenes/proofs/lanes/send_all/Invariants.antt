use Rattle.std.proofs.Common.{◌≡◌}
use Rattle.mr_link.specs.LaneLink.{SameEnd}
use Rattle.try_scenes.proofs.lanes.send_all.Given as goal

abbrev pub invariant-loop-byte : goal.invariant-loop-byte
invariant-loop-byte g l = record {
  downs : l.link.tells.downs ≡ 0;
  same : SameEnd l.fn.link l.link;
}
