use Rattle.mr_frames.proofs.PartLaws.{part_is_truncated}
use Rattle.mr_frames.proofs.laws.part_of_a_frame_is_truncated.Goals as goal

pub returns : goal.returns
returns c = part_is_truncated
