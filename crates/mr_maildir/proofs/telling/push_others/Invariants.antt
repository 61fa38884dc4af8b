use Rattle.std.proofs.Common.{◌≡◌, ◌++◌, drop}
use Rattle.mr_maildir.specs.Telling.{other_marks}
use Rattle.mr_maildir.proofs.telling.push_others.Given as goal

abbrev pub invariant-loop-mark : goal.invariant-loop-mark
invariant-loop-mark l = l.told.items ++ other_marks l.own (drop l.mark-index l.marks) ≡ l.fn.told.items ++ other_marks l.own l.marks
