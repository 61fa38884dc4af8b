use Rattle.std.proofs.Common.{take}
use Rattle.mr_store.proofs.Names.{NextAuthor, by_held, in_any}
use Rattle.mr_store.proofs.held_versions.HeldVersionsSource.next_author.Given as goal

abbrev pub invariant-loop-version : goal.invariant-loop-version
invariant-loop-version l = NextAuthor (in_any (by_held l.self.store.now) (take l.version-index l.self.versions.now)) l.id l.next
