use Rattle.std.proofs.Common.{◌≡◌}
use Rattle.try_scenes.proofs.between.send_all.Given as goal

abbrev pub invariant-loop-letter : goal.invariant-loop-letter
invariant-loop-letter g l = (l.post.id ≡ l.fn.post.id) × (l.post.sender ≡ l.fn.post.sender)
