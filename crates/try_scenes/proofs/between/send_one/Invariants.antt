use Rattle.std.proofs.Common.{◌≡◌}
use Rattle.try_scenes.proofs.between.send_one.Given as goal

abbrev pub invariant-loop : goal.invariant-loop
invariant-loop g l = (l.post.id ≡ l.fn.post.id) × (l.post.sender ≡ l.fn.post.sender)
