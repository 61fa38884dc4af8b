use Rattle.mr_desk.proofs.KeptLemmas.{uncommitted}
use Rattle.mr_desk.proofs.kept.commit.Goals as goal

pub returns-in-Err : goal.returns-in-Err
returns-in-Err c = rw c.from.ensures (uncommitted c.args.kept.now c.commit.new.self c.in-Err.fault c.in-Err.ensures)
