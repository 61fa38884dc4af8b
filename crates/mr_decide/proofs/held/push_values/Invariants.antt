use Rattle.std.proofs.Common.{◌≡◌, ◌++◌, map, take}
use Rattle.mr_decide.specs.declared.held.Head.{Head}
use Rattle.mr_decide.proofs.held.push_values.Given as goal

-- the values of the heads so far behind the others
abbrev pub invariant-loop-head : goal.invariant-loop-head
invariant-loop-head l = l.values.items ≡ l.fn.values.items ++ map (λ (head : Head). head.value) (take l.head-index l.heads)
