use Rattle.std.proofs.Common.{◌≡◌, take}
use Rattle.mr_joins.proofs.value.copied_marks.Given as goal

-- the marks so far
abbrev pub invariant-loop-mark : goal.invariant-loop-mark
invariant-loop-mark l = l.copied.items ≡ take l.mark-index l.marks
