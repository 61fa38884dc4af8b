use Rattle.std.proofs.Common.{take}
use Rattle.mr_forms.specs.Sets.{IsSame, is_listed}
use Rattle.mr_concise.proofs.sweep.by_set.Given as goal

-- the set has the versions so far
abbrev pub invariant-loop-version : goal.invariant-loop-version
invariant-loop-version l = IsSame (is_listed l.set) (is_listed (take l.version-index l.versions))
