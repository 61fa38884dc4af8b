use Rattle.std.proofs.Common.{◌-◌}
use Rattle.mr_concise.proofs.Names.{COUNTERS_END, of_author}
use Rattle.mr_concise.specs.inner.Meet.{meet_has}
use Rattle.mr_concise.proofs.MeetLemmas.{NoneTo}
use Rattle.mr_concise.proofs.sweep.MeetSource.next_in.Given as goal

abbrev pub invariant-loop-there : goal.invariant-loop-there
invariant-loop-there l = NoneTo (of_author (meet_has l.self) l.fn.author) l.from l.at

abbrev pub decreases-loop-there : goal.decreases-loop-there
decreases-loop-there l = COUNTERS_END - l.at
