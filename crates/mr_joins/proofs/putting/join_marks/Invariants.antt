use Rattle.std.proofs.Common.{◌≡◌}
use Rattle.mr_joins.specs.Value.{join}
use Rattle.mr_joins.proofs.putting.join_marks.Given as goal

-- the marks so far are joined
abbrev pub invariant-loop-mark : goal.invariant-loop-mark
invariant-loop-mark l = l.marks.items ≡ join l.fn.marks.items l.yielded
