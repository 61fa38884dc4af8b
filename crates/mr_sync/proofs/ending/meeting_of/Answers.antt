use Rattle.mr_sync.proofs.HelloLaws.{short_again}
use Rattle.mr_sync.proofs.ending.meeting_of.Goals as goal

pub returns-clause-theirs : goal.returns-clause-theirs
returns-clause-theirs c = short_again c.copy_from_slice.new.self c.args.knows.now _ c.copy_from_slice.ensures.after c.told-knows
