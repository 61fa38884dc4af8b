use Rattle.std.proofs.Common.{take}
use Rattle.mr_store.proofs.Names.{IsPassed, by_held, in_any, of_author}
use Rattle.mr_store.proofs.held_versions.passed.Given as goal

abbrev pub invariant-loop-version : goal.invariant-loop-version
invariant-loop-version l = IsPassed (of_author (in_any (by_held l.store) (take l.version-index l.versions)) l.author) l.from l.at
