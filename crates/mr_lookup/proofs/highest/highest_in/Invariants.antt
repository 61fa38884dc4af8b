use Rattle.std.proofs.Common.{take}
use Rattle.mr_lookup.proofs.Names.{IsHighestFound, all_covered, vector_has}
use Rattle.mr_lookup.proofs.highest.highest_in.Given as goal

abbrev pub invariant-loop-fragment : goal.invariant-loop-fragment
invariant-loop-fragment l = IsHighestFound (all_covered vector_has (take l.fragment-index l.fragments)) l.author l.highest
