use Rattle.std.proofs.Common.{◌-◌}
use Rattle.mr_itemset.proofs.Names.{COUNTERS_END, beyond}
use Rattle.mr_concise.proofs.MeetLemmas.{NoneTo}
use Rattle.mr_itemset.proofs.told.Difference.next_in.Given as goal

-- up to here there is none
abbrev pub invariant-loop-there : goal.invariant-loop-there
invariant-loop-there l = NoneTo (beyond l.self.all.now l.self.own.now l.fn.author) l.from l.at

abbrev pub decreases-loop-there : goal.decreases-loop-there
decreases-loop-there l = COUNTERS_END - l.at
