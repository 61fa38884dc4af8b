use Rattle.mr_session.proofs.asked.AskedOf.new.Goals as goal

pub invariant_of-result : goal.invariant_of-result
invariant_of-result c = rw (c.in_ok-copy.ensures, ← c.fragments.ensures) c.in_ok-index.ensures
