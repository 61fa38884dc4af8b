use Rattle.mr_talk.proofs.CallLaws.{alike}
use Rattle.mr_talk.proofs.laws.cuts_have_no_effect.Goals as goal

pub returns : goal.returns
returns c = alike
