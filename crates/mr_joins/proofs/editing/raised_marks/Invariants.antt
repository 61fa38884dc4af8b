use Rattle.std.proofs.Common.{◌≡◌, take}
use Rattle.std.specs.List.{flat_map}
use Rattle.mr_joins.specs.Edited.{raised_of}
use Rattle.mr_joins.proofs.editing.raised_marks.Given as goal

-- the marks of the elements so far that are raised
abbrev pub invariant-loop-element : goal.invariant-loop-element
invariant-loop-element l = l.raised.items ≡ flat_map (raised_of l.marks l.item l.labels) (take l.element-index l.elements)
