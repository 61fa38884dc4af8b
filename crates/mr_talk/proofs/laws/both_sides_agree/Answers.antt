use Rattle.mr_talk.proofs.TurnLaws.{agree_from_start, one_sends, same_at_end}
use Rattle.mr_talk.proofs.laws.both_sides_agree.Goals as goal

pub returns-clause-agree : goal.returns-clause-agree
returns-clause-agree c = agree_from_start

pub returns-clause-one_sends : goal.returns-clause-one_sends
returns-clause-one_sends c = one_sends

pub returns-clause-same_at_end : goal.returns-clause-same_at_end
returns-clause-same_at_end c = same_at_end
