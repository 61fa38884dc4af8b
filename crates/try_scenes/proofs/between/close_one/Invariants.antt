use Rattle.std.proofs.Common.{◌≡◌}
use Rattle.try_scenes.proofs.between.close_one.Given as goal

abbrev pub invariant-loop : goal.invariant-loop
invariant-loop g l = l.spout.id ≡ l.fn.spout.id
