use Rattle.std.proofs.Common.{[]}
use Rattle.mr_talk.proofs.CallLaws.{comes_to}
use Rattle.mr_talk.proofs.laws.fed_bytes_are_messages_and_rest.Goals as goal

pub returns : goal.returns
returns c = λ calls state runs. comes_to calls [] state runs
