use Rattle.std.proofs.Common.{length}
use Rattle.mr_filter.proofs.Names.{IsClauseInGrammar, IsUtf8}
use Rattle.mr_filter.proofs.Progress.{HasPassed}
use Rattle.mr_filter.proofs.pieces.first_bad.Given as goal

abbrev pub invariant-loop-in_clause : goal.invariant-loop-in_clause
invariant-loop-in_clause l = HasPassed 124 IsClauseInGrammar l.fn.text l.rest l.place × IsUtf8 l.rest

abbrev pub decreases-loop-in_clause : goal.decreases-loop-in_clause
decreases-loop-in_clause l = length l.rest
