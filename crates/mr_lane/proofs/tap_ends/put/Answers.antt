use Rattle.mr_lane.proofs.TapLemmas.{tap_pushes, tap_waiting}
use Rattle.mr_lane.proofs.tap_ends.put.Goals as goal

pub push_as-requires-clause-rule : goal.push_as-requires-clause-rule
push_as-requires-clause-rule g c = (tap_pushes _ _ _ _ c.requires.may, tap_waiting _ _ c.requires.may)
