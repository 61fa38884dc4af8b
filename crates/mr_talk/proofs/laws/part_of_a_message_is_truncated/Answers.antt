use Rattle.mr_talk.proofs.MessageLaws.{part_is_truncated}
use Rattle.mr_talk.proofs.laws.part_of_a_message_is_truncated.Goals as goal

pub returns : goal.returns
returns c = part_is_truncated
