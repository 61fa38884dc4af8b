use Rattle.std.proofs.Common.{◌≡◌, drop}
use Rattle.std.specs.List.{list_any}
use Rattle.mr_decide.specs.Held.{differs}
use Rattle.mr_decide.proofs.held.does_one_differ.Given as goal

-- one of the heads differs if one of those that are left does
abbrev pub invariant-loop-head : goal.invariant-loop-head
invariant-loop-head l = list_any (differs l.shown) (drop l.head-index l.heads) ≡ list_any (differs l.shown) l.heads
