use Rattle.std.proofs.Common.{◌≡◌, drop}
use Rattle.mr_joins.specs.Value.{says}
use Rattle.mr_joins.proofs.editing.count_at.Given as goal

-- what the marks that are left say is what all say
abbrev pub invariant-loop-mark : goal.invariant-loop-mark
invariant-loop-mark l = says (drop l.mark-index l.marks) (l.item, l.element) ≡ says l.marks (l.item, l.element)
