use Rattle.std.proofs.Common.{refl, ◌∙◌}
use Rattle.mr_session.proofs.asked.AskedOf.knows.Goals as goal

pub covers-requires : goal.covers-requires
covers-requires c = rw c.fragments.ensures c.self.invariant

pub returns : goal.returns
returns c = rw (← c.self.view_is) (c.covers.ensures ∙ rw c.fragments.ensures refl)
