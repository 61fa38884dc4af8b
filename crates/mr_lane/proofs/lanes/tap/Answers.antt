use Rattle.std.proofs.Common.{ap}
use Rattle.mr_lane.proofs.TapLemmas.{tap_begins, tap_forks}
use Rattle.mr_lane.proofs.lanes.tap.Goals as goal

pub ruled-requires-clause-rule : goal.ruled-requires-clause-rule
ruled-requires-clause-rule g c = tap_begins

pub another-other-requires-clause-rule : goal.another-other-requires-clause-rule
another-other-requires-clause-rule g c = let first = c.in_ok-queue.ensures.3 in tap_forks _ _ (ap (λ v. v.offers) first) (ap (λ v. v.takes) first)
