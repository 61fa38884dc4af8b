use Rattle.mr_concise.proofs.ChangeLemmas.{ChangedTo}
use Rattle.mr_concise.proofs.union.changed_columns.Given as goal

-- the columns of b so far are put to those of a
abbrev pub invariant-loop-x : goal.invariant-loop-x
invariant-loop-x l = ChangedTo l.a l.b l.x-index l.changed.items
