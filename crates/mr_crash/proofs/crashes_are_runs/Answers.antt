use Rattle.mr_crash.proofs.Theorem.{leaves, crash_holds}
use Rattle.mr_crash.proofs.crashes_are_runs.Goals as goal

pub returns-clause-leaves : goal.returns-clause-leaves
returns-clause-leaves g c = λ s before later r run nobody. let rest = leaves s before later r run nobody in (rest.0, rest.1.left_are)

pub returns-clause-run : goal.returns-clause-run
returns-clause-run g c = crash_holds
