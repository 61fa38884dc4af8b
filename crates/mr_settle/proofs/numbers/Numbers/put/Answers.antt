use Rattle.mr_settle.proofs.PutLemmas.{puts}
use Rattle.mr_settle.proofs.numbers.Numbers.put.Goals as goal

pub returns : goal.returns
returns c = record { ok = puts c.args.self.now.by_frame c.insert.new.self c.args.frame.items c.args.number c.in_ok-insert.ensures.updates }
