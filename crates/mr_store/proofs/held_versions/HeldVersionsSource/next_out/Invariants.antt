use Rattle.std.proofs.Common.{◌-◌}
use Rattle.mr_store.proofs.Names.{IsAllTo, by_held, in_any, of_author}
use Rattle.mr_store.proofs.held_versions.HeldVersionsSource.next_out.Given as goal

abbrev pub invariant-loop-at : goal.invariant-loop-at
invariant-loop-at l = IsAllTo (of_author (in_any (by_held l.self.store.now) l.self.versions.now) l.author) l.from l.at

abbrev pub decreases-loop-at : goal.decreases-loop-at
decreases-loop-at l = 1000001 - l.at
