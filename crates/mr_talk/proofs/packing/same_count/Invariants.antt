use Rattle.std.proofs.Common.{◌≡◌, take}
use Rattle.mr_talk.proofs.packing.same_count.Given as goal

abbrev pub invariant-loop-at : goal.invariant-loop-at
invariant-loop-at l = take l.at l.before ≡ take l.at l.rest
