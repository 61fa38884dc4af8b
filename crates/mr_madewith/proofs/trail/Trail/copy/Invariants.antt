use Rattle.std.proofs.Common.{◌≡◌, take}
use Rattle.mr_madewith.proofs.trail.Trail.copy.Given as goal

abbrev pub invariant-loop-last : goal.invariant-loop-last
invariant-loop-last l = l.lasts.items ≡ take l.last-index l.last-items
