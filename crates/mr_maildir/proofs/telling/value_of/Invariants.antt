use Rattle.std.proofs.Common.{◌≡◌, [], drop}
use Rattle.mr_joins.specs.Value.{join}
use Rattle.mr_maildir.proofs.telling.value_of.Given as goal

abbrev pub invariant-loop-mark : goal.invariant-loop-mark
invariant-loop-mark l = join l.value (drop l.mark-index l.marks) ≡ join [] l.marks
