use Rattle.std.proofs.Common.{length}
use Rattle.mr_filter.proofs.Reading.{HasReadClauses}
use Rattle.mr_filter.proofs.read.read_clauses.Given as goal

abbrev pub invariant-loop-clauses : goal.invariant-loop-clauses
invariant-loop-clauses l = HasReadClauses l.fn.text l.rest l.clauses.items

abbrev pub decreases-loop-clauses : goal.decreases-loop-clauses
decreases-loop-clauses l = length l.rest
