use Rattle.std.proofs.Common.{◌≡◌, ◌++◌, drop, string_bytes}
use Rattle.mr_maildir.specs.inner.Counts.{marks_behind}
use Rattle.mr_maildir.proofs.counts.push_marks_behind.Given as goal

abbrev pub invariant-loop-mark : goal.invariant-loop-mark
invariant-loop-mark l = string_bytes l.text ++ marks_behind l.own l.before (drop l.mark-index l.marks) ≡ string_bytes l.fn.text ++ marks_behind l.own l.fn.item l.marks
