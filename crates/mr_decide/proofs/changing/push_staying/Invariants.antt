use Rattle.std.proofs.Common.{◌≡◌, ◌++◌, take, filter}
use Rattle.mr_decide.specs.Changing.{stays}
use Rattle.mr_decide.proofs.changing.push_staying.Given as goal

-- those of the labels so far that stay
abbrev pub invariant-loop-label : goal.invariant-loop-label
invariant-loop-label l = l.labels.items ≡ l.fn.labels.items ++ filter (stays l.shown l.left l.seen) (take l.label-index l.given)
