use Rattle.mr_replica.proofs.Preparing.{arrival_put}
use Rattle.mr_replica.proofs.replica.parts.Parts.put.Goals as goal

pub returns-in-Enter : goal.returns-in-Enter
returns-in-Enter g c = rw c.in-Enter.is (arrival_put g.K.Knowledge.form c.args.self.now c.in-Enter.arrival c.args.event.now c.enter.new.self c.enter.result c.enter.ensures)
