use Rattle.mr_talk.proofs.ToldLaws.{told_nothing}
use Rattle.mr_talk.proofs.peer.nothing_to_tell.Goals as goal

pub returns-clause-nothing_told : goal.returns-clause-nothing_told
returns-clause-nothing_told c = told_nothing c.has_nothing.result _ _ _ c.has_nothing.ensures
