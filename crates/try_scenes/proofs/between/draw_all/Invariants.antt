use Rattle.std.proofs.Common.{◌≡◌}
use Rattle.try_scenes.proofs.between.draw_all.Given as goal

abbrev pub invariant-loop : goal.invariant-loop
invariant-loop g l = l.tap.id ≡ l.fn.tap.id
