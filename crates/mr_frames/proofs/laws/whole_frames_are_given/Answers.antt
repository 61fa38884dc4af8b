use Rattle.mr_frames.proofs.CallLaws.{gives_all}
use Rattle.mr_frames.proofs.laws.whole_frames_are_given.Goals as goal

pub returns : goal.returns
returns c = gives_all
