use Rattle.mr_concise.proofs.LastLemmas.{vector_has-versions}
use Rattle.mr_concise.proofs.set.ConciseVectorVersionSet.run_from.Goals as goal

pub returns-clause-versions : goal.returns-clause-versions
returns-clause-versions c = vector_has-versions c.args.self.now (rw c.self.view_is at c.self.invariant)

pub returns-in_err-first-clause-versions : goal.returns-in_err-first-clause-versions
returns-in_err-first-clause-versions c = vector_has-versions c.args.self.now (rw c.self.view_is at c.self.invariant)
