use Rattle.std.proofs.Common.{take, ◌≤◌}
use Rattle.std.specs.Prelude.{IfSome}
use Rattle.mr_store.proofs.Names.{NextIn, by_held, in_any, of_author}
use Rattle.mr_store.proofs.held_versions.HeldVersionsSource.next_in.Given as goal

abbrev pub invariant-loop-version : goal.invariant-loop-version
invariant-loop-version l = record { next : NextIn (of_author (in_any (by_held l.self.store.now) (take l.version-index l.self.versions.now)) l.author) l.from l.next; bound : IfSome l.next (λ at. at ≤ 1000000) }
