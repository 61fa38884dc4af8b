use Rattle.mr_madewith.specs.Trail.{item_of_last}
use Rattle.mr_madewith.proofs.Rising.{rises_none}
use Rattle.mr_madewith.proofs.trail.Trail.new.Goals as goal

pub invariant_of-result : goal.invariant_of-result
invariant_of-result c = rw c.new.ensures.items (rises_none item_of_last)
