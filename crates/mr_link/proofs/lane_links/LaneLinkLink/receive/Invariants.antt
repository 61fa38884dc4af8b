use Rattle.std.proofs.Common.{◌≡◌}
use Rattle.mr_link.proofs.lane_links.LaneLinkLink.receive.Given as goal

abbrev pub invariant-loop : goal.invariant-loop
invariant-loop g l = l.self ≡ l.fn.self
