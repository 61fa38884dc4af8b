use Rattle.std.proofs.Common.{take}
use Rattle.mr_concise.proofs.Names.{IsSame, IsVectorFrom, in_runs, vector_has}
use Rattle.mr_concise.proofs.fragments.columns_of_runs.Given as goal

-- the columns of the runs so far
abbrev pub invariant-loop-run : goal.invariant-loop-run
invariant-loop-run l = IsVectorFrom 0 l.columns.items × IsSame (vector_has l.columns.items) (in_runs (take l.run-index l.runs))
