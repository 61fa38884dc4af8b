use Rattle.std.proofs.Common.{◌≡◌, map, take}
use Rattle.mr_joins.specs.Edited.{new_mark}
use Rattle.mr_joins.proofs.editing.toggled_once.Given as goal

-- the marks of the elements so far
abbrev pub invariant-loop-element : goal.invariant-loop-element
invariant-loop-element l = l.marks.items ≡ map (new_mark l.item) (take l.element-index l.elements)
