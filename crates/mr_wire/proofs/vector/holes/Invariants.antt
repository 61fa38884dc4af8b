use Rattle.std.proofs.Common.{◌+◌, ◌-◌}
use Rattle.mr_wire.proofs.Names.{AreSeen, hole_at}
use Rattle.mr_wire.proofs.RunLemmas.{Running}
use Rattle.mr_wire.proofs.vector.holes.Given as goal

abbrev pub invariant-loop : goal.invariant-loop
invariant-loop l =
    Running (hole_at l.upto) (λ _ hole. hole.last + 1) 0 l.count l.fn.input l.holes l.above (l.count - l.counter) l.input (AreSeen l.watched l.seen)
