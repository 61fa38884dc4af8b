use Rattle.std.proofs.Common.{drop}
use Rattle.mr_concise.proofs.RunLemmas.{RunsTo}
use Rattle.mr_concise.proofs.set.push_runs.Given as goal

-- the holes so far are turned into the runs between them
abbrev pub invariant-loop-hole : goal.invariant-loop-hole
invariant-loop-hole l = RunsTo l.x.author l.x.column l.fn.runs.items l.runs.items l.start (drop l.hole-index l.x.column.holes)
