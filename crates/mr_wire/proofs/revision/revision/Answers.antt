use Rattle.mr_wire.proofs.DescentLemmas.{descent_kept, stands_revision}
use Rattle.mr_wire.proofs.revision.revision.Goals as goal

pub revision_of-requires : goal.revision_of-requires
revision_of-requires c = descent_kept c.in_ok-parts.parts.item c.in_ok-parts.parts.version c.in_ok-parts.parts.below c.in_ok-parts.ensures

pub returns : goal.returns
returns c = stands_revision c.in_ok-parts.parts.item c.in_ok-parts.parts.version c.in_ok-parts.parts.below c.in_ok-message.message c.revision_of.result c.in_ok-parts.ensures c.in_ok-message.ensures c.revision_of.ensures
