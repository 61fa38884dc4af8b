use Rattle.std.proofs.Common.{◌≡◌, ◌++◌, filter, map, take}
use Rattle.mr_version.specs.Sets.{is_listed}
use Rattle.mr_draw.proofs.contested.push_heads_of.Given as goal

-- those of the heads so far
abbrev pub invariant-loop-head : goal.invariant-loop-head
invariant-loop-head l = l.contested.items ≡ l.fn.contested.items ++ map (λ r. r.version) (filter (λ r. is_listed l.items r.item) (take l.head-index l.heads))
