use Rattle.mr_sync.proofs.VouchLaws.{has_none}
use Rattle.mr_sync.proofs.vouching.is_whole.Goals as goal

pub returns-in-None-clause-whole : goal.returns-in-None-clause-whole
returns-in-None-clause-whole g c = λ told is. has_none c.args.head.now _ c.message.result.now c.message.ensures c.in-None.ensures.needs
