use Rattle.std.proofs.Common.{ap}
use Rattle.mr_lane.proofs.InboxLemmas.{inbox_begins, inbox_forks}
use Rattle.mr_lane.proofs.lanes.inbox.Goals as goal

pub ruled-requires-clause-rule : goal.ruled-requires-clause-rule
ruled-requires-clause-rule g c = inbox_begins

pub another-user-requires-clause-rule : goal.another-user-requires-clause-rule
another-user-requires-clause-rule g c = inbox_forks _ _ (ap (λ v. v.takes) c.in_ok-queue.ensures.3)

pub another-first-requires-clause-rule : goal.another-first-requires-clause-rule
another-first-requires-clause-rule g c = inbox_forks _ _ (ap (λ v. v.takes) c.another-user.ensures.rule.0)

pub another-second-requires-clause-rule : goal.another-second-requires-clause-rule
another-second-requires-clause-rule g c = inbox_forks _ _ (ap (λ v. v.takes) c.another-first.ensures.rule.0)
