use Rattle.std.proofs.Common.{◌≡◌, take}
use Rattle.std.specs.List.{flat_map}
use Rattle.mr_joins.specs.Shown.{folder_set}
use Rattle.mr_joins.proofs.shown.folders_set.Given as goal

-- the labels of the folders that the marks so far set
abbrev pub invariant-loop-mark : goal.invariant-loop-mark
invariant-loop-mark l = l.labels.items ≡ flat_map folder_set (take l.mark-index l.marks)
