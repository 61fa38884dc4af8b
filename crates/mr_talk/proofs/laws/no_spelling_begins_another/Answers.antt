use Rattle.mr_talk.proofs.MessageLaws.{no_other}
use Rattle.mr_talk.proofs.laws.no_spelling_begins_another.Goals as goal

pub returns : goal.returns
returns c = no_other
