use Rattle.std.proofs.Common.{◌≡◌, ◌++◌, map, take}
use Rattle.mr_fold.proofs.lacking.push_items.Given as goal

abbrev pub invariant-loop-own : goal.invariant-loop-own
invariant-loop-own l = l.items.items ≡ l.fn.items.items ++ map (λ own. own.item) (take l.own-index l.heads)
