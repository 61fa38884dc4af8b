use Rattle.std.proofs.Common.{◌-◌}
use Rattle.mr_concise.proofs.Names.{COUNTERS_END, in_any, of_author}
use Rattle.mr_concise.proofs.AnyOfLemmas.{IsAllTo}
use Rattle.mr_concise.proofs.source.AnyOfSource.next_out.Given as goal

abbrev pub invariant-loop-at : goal.invariant-loop-at
invariant-loop-at g l = IsAllTo (of_author (in_any g.S.Source.has l.self.sources.now) l.author) l.from l.at

abbrev pub decreases-loop-at : goal.decreases-loop-at
decreases-loop-at g l = COUNTERS_END - l.at
