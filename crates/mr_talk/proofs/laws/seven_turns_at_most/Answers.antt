use Rattle.mr_talk.proofs.TurnLaws.{seven_at_most}
use Rattle.mr_talk.proofs.laws.seven_turns_at_most.Goals as goal

pub returns : goal.returns
returns c = seven_at_most
