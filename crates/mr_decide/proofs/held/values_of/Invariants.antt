use Rattle.std.proofs.Common.{◌≡◌, take}
use Rattle.std.specs.List.{flat_map}
use Rattle.mr_decide.specs.Held.{values_in}
use Rattle.mr_decide.proofs.held.values_of.Given as goal

-- the values of the items so far
abbrev pub invariant-loop-item : goal.invariant-loop-item
invariant-loop-item l = l.values.items ≡ flat_map values_in (take l.item-index l.held)
