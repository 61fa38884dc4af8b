use Rattle.mr_lane.proofs.InboxLemmas.{inbox_pushes}
use Rattle.mr_lane.proofs.post.put.Goals as goal

pub push_as-requires-clause-rule : goal.push_as-requires-clause-rule
push_as-requires-clause-rule g c = (inbox_pushes _ _ _ _ c.requires.may c.requires.sender, λ waiting sights h at. tt)
