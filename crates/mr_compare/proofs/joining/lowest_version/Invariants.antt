use Rattle.std.proofs.Common.{◌≡◌, take}
use Rattle.mr_compare.proofs.Names.{flat_map, lowest, versions_in}
use Rattle.mr_compare.proofs.joining.lowest_version.Given as goal

abbrev pub invariant-loop-item : goal.invariant-loop-item
invariant-loop-item l = l.first ≡ lowest (flat_map versions_in (take l.item-index l.items))
