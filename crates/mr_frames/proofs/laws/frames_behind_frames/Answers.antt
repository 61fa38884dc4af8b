use Rattle.mr_frames.proofs.StreamLaws.{frames_more, frames_on, frames_whole}
use Rattle.mr_frames.proofs.laws.frames_behind_frames.Goals as goal

pub returns-clause-more : goal.returns-clause-more
returns-clause-more c = frames_more

pub returns-clause-on : goal.returns-clause-on
returns-clause-on c = frames_on

pub returns-clause-whole : goal.returns-clause-whole
returns-clause-whole c = frames_whole
