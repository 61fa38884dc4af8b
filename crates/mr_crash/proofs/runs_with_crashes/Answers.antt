use Rattle.mr_model.proofs.Theorem.{headline_holds}
use Rattle.mr_crash.proofs.Theorem.{with_crashes, no_crash}
use Rattle.mr_crash.proofs.runs_with_crashes.Goals as goal

pub returns-clause-run : goal.returns-clause-run
returns-clause-run g c = with_crashes

pub returns-clause-headline : goal.returns-clause-headline
returns-clause-headline g c = λ s h w. headline_holds s h (with_crashes s h w)

pub returns-clause-no_crash : goal.returns-clause-no_crash
returns-clause-no_crash g c = no_crash
