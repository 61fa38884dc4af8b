use Rattle.std.proofs.Common.{refl}
use Rattle.mr_kept.proofs.RefusingLemmas.{is_longer}
use Rattle.mr_kept.proofs.gather.entry_at.Goals as goal

pub returns-then-used-bytes-clause-fault : goal.returns-then-used-bytes-clause-fault
returns-then-used-bytes-clause-fault c = (refl, is_longer c.args.bytes.now c.in-Ok.entry c.in-Ok.used c.in-Ok.ensures.spelled c.in-Ok.ensures.within c.if-used-bytes.true)
