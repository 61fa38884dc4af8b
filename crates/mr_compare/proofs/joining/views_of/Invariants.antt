use Rattle.std.proofs.Common.{◌≡◌, map, take}
use Rattle.mr_compare.proofs.joining.views_of.Given as goal

abbrev pub invariant-loop-item : goal.invariant-loop-item
invariant-loop-item l = l.views.items ≡ map (λ item. item.view) (take l.item-index l.items)
