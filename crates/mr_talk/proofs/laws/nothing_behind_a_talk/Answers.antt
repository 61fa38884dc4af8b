use Rattle.mr_talk.proofs.TurnLaws.{nothing_behind}
use Rattle.mr_talk.proofs.laws.nothing_behind_a_talk.Goals as goal

pub returns : goal.returns
returns c = nothing_behind
