use Rattle.std.proofs.Common.{◌≡◌}
use Rattle.try_scenes.proofs.between.take_all.Given as goal

abbrev pub invariant-loop : goal.invariant-loop
invariant-loop g l = l.desk.id ≡ l.fn.desk.id
