use Rattle.std.proofs.Common.{◌≡◌, map, take}
use Rattle.mr_joins.specs.Edited.{deleted_mark}
use Rattle.mr_joins.proofs.editing.deleted_marks.Given as goal

-- the marks so far, of a mail that is deleted
abbrev pub invariant-loop-mark : goal.invariant-loop-mark
invariant-loop-mark l = l.deleted.items ≡ map deleted_mark (take l.mark-index l.marks)
