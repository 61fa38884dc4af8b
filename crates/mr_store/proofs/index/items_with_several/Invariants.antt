use Rattle.std.proofs.Common.{◌≡◌, ◌++◌}
use Rattle.mr_store.proofs.Several.{several}
use Rattle.mr_store.proofs.index.items_with_several.Given as goal

-- the items so far and those of what is left are all
abbrev pub invariant-loop-item : goal.invariant-loop-item
invariant-loop-item l = l.items.items ++ several l.item-iterator ≡ several l.index.entries
