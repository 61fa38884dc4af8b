use Rattle.mr_desk.proofs.KeptLemmas.{untaken}
use Rattle.mr_desk.proofs.kept.tell.Goals as goal

pub returns-in-Err : goal.returns-in-Err
returns-in-Err c = untaken c.args.kept.now c.ask.new.self c.args.event c.in-Err.fault c.in-Err.ensures.asked c.ask.ensures.journal c.ask.ensures.host
