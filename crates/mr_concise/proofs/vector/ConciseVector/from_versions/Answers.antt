use Rattle.std.proofs.Common.{rules}
use Rattle.mr_concise.proofs.VersionLemmas.{in_any-names}
use Rattle.mr_concise.proofs.vector.ConciseVector.from_versions.Goals as goal

pub returns-then-would_have_too_many-clause-holes : goal.returns-then-would_have_too_many-clause-holes
returns-then-would_have_too_many-clause-holes c = let e = rw (in_any-names c.args.versions.now) at c.would_have_too_many.ensures in search rules

pub returns-else-would_have_too_many-clause-holes : goal.returns-else-would_have_too_many-clause-holes
returns-else-would_have_too_many-clause-holes c = let e = rw (in_any-names c.args.versions.now) at c.would_have_too_many.ensures in search rules
