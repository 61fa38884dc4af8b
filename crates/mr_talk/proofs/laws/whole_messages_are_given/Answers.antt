use Rattle.mr_talk.proofs.CallLaws.{gives_all}
use Rattle.mr_talk.proofs.laws.whole_messages_are_given.Goals as goal

pub returns : goal.returns
returns c = gives_all
