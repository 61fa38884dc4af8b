use Rattle.std.proofs.Common.{◌≡◌, map, take}
use Rattle.mr_compare.specs.Held.{view_at}
use Rattle.mr_compare.proofs.held.views_of.Given as goal

abbrev pub invariant-loop-head : goal.invariant-loop-head
invariant-loop-head l = l.views.items ≡ map view_at (take l.head-index l.heads)
