use Rattle.std.proofs.Common.{subst, sym}
use Rattle.mr_replica.proofs.Names.{IsItsLog, State}
use Rattle.mr_replica.proofs.replica.Replica.copy.Goals as goal

pub invariant_of-result : goal.invariant_of-result
invariant_of-result g c = subst (λ (z : State g.row.K.Denot). IsItsLog g.K.Knowledge.form z) (sym c.in_ok-core.ensures) c.self.invariant
