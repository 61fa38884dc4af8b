use Rattle.std.proofs.Common.{◌≡◌, ◌∷◌, ◌++◌, None, map}
use Rattle.std.specs.Vec.Iter.{into_iter_items}
use Rattle.mr_itemset.specs.Shown.{shown, shown_group}
use Rattle.mr_itemset.proofs.fragments.fragments_of.Given as goal

-- with a fragment of each group that is left, they are all that there are to be
abbrev pub invariant-loop-group : goal.invariant-loop-group
invariant-loop-group l = map shown l.fragments.items ++ map shown_group (into_iter_items l.group-iterator) ≡ (record { items = None; vector = l.fn.all }) ∷ map shown_group l.fn.groups.items
