use Rattle.std.proofs.Common.{◌≡◌, map, take}
use Rattle.mr_joins.specs.Edited.{left_mark}
use Rattle.mr_joins.proofs.editing.left_marks.Given as goal

-- the marks so far, with what is taken off
abbrev pub invariant-loop-mark : goal.invariant-loop-mark
invariant-loop-mark l = l.left.items ≡ map (left_mark l.marks l.labels l.flags) (take l.mark-index l.marks)
