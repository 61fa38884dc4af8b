use Rattle.std.specs.Vec.Iter.{into_iter_items}
use Rattle.mr_world.proofs.Running.Loops.{MembersSoFar}
use Rattle.mr_world.proofs.world.members_of.Given as goal

abbrev pub invariant-loop-spec : goal.invariant-loop-spec
invariant-loop-spec g l = MembersSoFar g.K.Knowledge.form l.fn.specs.items l.yielded (into_iter_items l.spec-iterator) l.members.items
