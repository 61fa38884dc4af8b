use Rattle.std.proofs.Common.{◌≡◌, take}
use Rattle.mr_compare.proofs.Names.{Name, last_told, told_last}
use Rattle.mr_compare.proofs.left.changed_in.Given as goal

-- what the entries up to here tell last
abbrev pub invariant-loop-entry : goal.invariant-loop-entry
invariant-loop-entry l = (item : Name) → told_last l.changed.entries item ≡ last_told (take l.entry-index l.entries) item
