use Rattle.std.proofs.Common.{◌≡◌, length}
use Rattle.mr_world.specs.Made.{has_same_id}
use Rattle.mr_world.proofs.spec.names_one_twice.Given as goal

abbrev pub invariant-loop-first : goal.invariant-loop-first
invariant-loop-first l = has_same_id l.rest ≡ has_same_id l.fn.specs

abbrev pub decreases-loop-first : goal.decreases-loop-first
decreases-loop-first l = length l.rest
