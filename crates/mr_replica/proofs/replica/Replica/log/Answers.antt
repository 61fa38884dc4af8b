use Rattle.std.proofs.Common.{subst}
use Rattle.mr_replica.proofs.Names.{IsItsLog, State}
use Rattle.mr_replica.proofs.replica.Replica.log.Goals as goal

pub returns-clause-is_its_log : goal.returns-clause-is_its_log
returns-clause-is_its_log g c = subst (λ (z : State g.row.K.Denot). IsItsLog g.K.Knowledge.form z) c.self.view_is c.self.invariant
