use Rattle.mr_journal.proofs.PastLemmas.{passes_to}
use Rattle.mr_journal.proofs.memory.MemoryDeviceDevice.write_at.Goals as goal

pub returns-in-Ok-clause-time : goal.returns-in-Ok-clause-time
returns-in-Ok-clause-time c =
    let past = c.in-Ok.ensures.past in
    λ told. passes_to c.args.self.now.past.items c.replace.new.past.items past.0 c.args.self.now.bytes.items c.replace.new.bytes.items past.1 past.2
