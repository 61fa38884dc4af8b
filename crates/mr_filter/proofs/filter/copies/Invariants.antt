use Rattle.std.proofs.Common.{◌≡◌, take}
use Rattle.mr_filter.proofs.filter.copies.Given as goal

abbrev pub invariant-loop-clause : goal.invariant-loop-clause
invariant-loop-clause l = l.copied.items ≡ take l.clause-index l.clauses
