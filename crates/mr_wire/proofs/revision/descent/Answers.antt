use Rattle.mr_wire.proofs.DescentLemmas.{descent_kept, stands_descent}
use Rattle.mr_wire.proofs.revision.descent.Goals as goal

pub descent_of-requires : goal.descent_of-requires
descent_of-requires c = descent_kept c.in_ok-parts.parts.item c.in_ok-parts.parts.version c.in_ok-parts.parts.below c.in_ok-parts.ensures

pub returns : goal.returns
returns c = stands_descent c.in_ok-parts.parts.item c.in_ok-parts.parts.version c.in_ok-parts.parts.below c.descent_of.result c.in_ok-parts.ensures c.descent_of.ensures
