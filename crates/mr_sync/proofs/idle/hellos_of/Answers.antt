use Rattle.mr_sync.proofs.IdleLaws.{no_theirs}
use Rattle.mr_sync.proofs.idle.hellos_of.Goals as goal

pub returns-in_default-read : goal.returns-in_default-read
returns-in_default-read c = no_theirs c.args.bytes.now c.split_at.result.1.now c.read-2.result c.split_at.ensures.back c.read-2.ensures.whole c.in_default-read.not-Ok
