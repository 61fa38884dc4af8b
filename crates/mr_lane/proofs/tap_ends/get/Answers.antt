use Rattle.mr_lane.proofs.TapLemmas.{tap_pops}
use Rattle.mr_lane.proofs.tap_ends.get.Goals as goal

pub pop_as-requires-clause-rule : goal.pop_as-requires-clause-rule
pop_as-requires-clause-rule g c = (tap_pops _ _ c.requires.may, λ waiting sights h at. tt)
