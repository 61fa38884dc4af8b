use Rattle.std.proofs.Common.{◌≡◌, drop}
use Rattle.mr_maildir.specs.Telling.{marks_eq}
use Rattle.mr_maildir.proofs.telling.are_same.Given as goal

abbrev pub invariant-loop-i : goal.invariant-loop-i
invariant-loop-i l = marks_eq (drop l.i l.a) (drop l.i l.b) ≡ marks_eq l.a l.b
