use Rattle.std.proofs.Common.{subst}
use Rattle.mr_replica.proofs.Names.{IsItsLog, State}
use Rattle.mr_replica.proofs.Retiring.{has_released}
use Rattle.mr_replica.proofs.replica.Replica.push_outs.Goals as goal

pub returns-clause-released : goal.returns-clause-released
returns-clause-released g c = has_released g.K.Knowledge.form c.args.self.now (subst (λ (z : State g.row.K.Denot). IsItsLog g.K.Knowledge.form z) c.self.view_is c.self.invariant)
