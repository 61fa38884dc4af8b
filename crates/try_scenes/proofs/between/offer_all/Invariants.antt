use Rattle.std.proofs.Common.{◌≡◌}
use Rattle.try_scenes.proofs.between.offer_all.Given as goal

abbrev pub invariant-loop-item : goal.invariant-loop-item
invariant-loop-item g l = l.spout.id ≡ l.fn.spout.id
