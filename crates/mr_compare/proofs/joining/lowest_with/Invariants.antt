use Rattle.std.proofs.Common.{◌≡◌, ◌++◌, List, take}
use Rattle.mr_compare.proofs.Names.{Name, lowest}
use Rattle.mr_compare.proofs.joining.lowest_with.Given as goal

abbrev pub invariant-loop-version : goal.invariant-loop-version
invariant-loop-version l = (others : List Name) → l.fn.known ≡ lowest others → l.first ≡ lowest (others ++ take l.version-index l.versions)
