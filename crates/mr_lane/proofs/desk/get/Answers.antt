use Rattle.mr_lane.proofs.InboxLemmas.{inbox_pops}
use Rattle.mr_lane.proofs.desk.get.Goals as goal

pub pop_as-requires-clause-rule : goal.pop_as-requires-clause-rule
pop_as-requires-clause-rule g c = (inbox_pops _ _ c.requires.may, λ waiting sights h at. tt)
