use Rattle.std.proofs.Common.{◌≡◌}
use Rattle.std.specs.List.{AllByRecursion}
use Rattle.mr_joins.specs.Value.{IsValue, joined}
use Rattle.mr_joins.proofs.value.Value.joined.Given as goal

-- the heads so far together
abbrev pub invariant-loop-head : goal.invariant-loop-head
invariant-loop-head l = record { is : l.value ≡ joined l.yielded; each : AllByRecursion IsValue l.yielded }
