use Rattle.mr_concise.proofs.RunLemmas.{RunsOfFirst}
use Rattle.mr_concise.proofs.set.ConciseVectorVersionSet.columns.Given as goal

abbrev pub invariant-loop-x : goal.invariant-loop-x
invariant-loop-x l = RunsOfFirst l.self l.x-index l.runs.items
